-- An open edit of a group, over a store, and what its edits keep.
use Rattle.std.specs.Prelude.{◌≡◌, ℕ, true}
use Rattle.byte_fields.specs.Steps.{StepCount}
use Rattle.blk_cache.specs.Cache.{AgreesTold}
use Rattle.blk_device.specs.declared.device.Device.{Ghosts}
use Rattle.blk_device.specs.declared.device.Region.TheVariants.{Image}
use Rattle.geom.specs.Places.{device_block}
use Rattle.join_blocks.specs.Joins.{is_joined}
use Rattle.meta_txn.specs.Joined.{AreBelow}
use Rattle.tree_edit.specs.Device.{IsLeft}
use Rattle.core_edit.specs.Open.{AtMark}
use Rattle.core_edit.specs.declared.store.Store.{Store}

-- The edit is one of this group, marked, and can be closed: block 0 is joined, and all that is joined lies in the image.
pub record IsOpen {D : Type 0} (d : Ghosts D) (g : ℕ) (s : Store D) : Type 0 where
  pub group : s.edit.group ≡ g
  pub marked : AtMark s.edit
  pub joined : is_joined s.edit.txn.blocks (device_block s.geo g 0) ≡ true
  pub below : AreBelow (d.blocks s.dev Image) s.edit.txn.blocks

-- The device is only read, and what is kept of it is still its own.
pub record EditsStore {D : Type 0} (d : Ghosts D) (old new : Store D) (before after : StepCount) : Type 0 where
  pub geometry : new.geo ≡ old.geo
  pub left : IsLeft d old.dev new.dev before after
  pub agreed : AgreesTold new.cache (d.content new.dev)
