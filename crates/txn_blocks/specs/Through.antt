-- What is read through a transaction.
use Rattle.std.specs.Prelude.{◌≡◌, ℕ, List, Option, Some, None, Result, IfSome}
use Rattle.std.specs.Borrow.{MutBor}
use Rattle.byte_fields.specs.Steps.{StepCount}
use Rattle.blk_device.specs.Contents.{Contents}
use Rattle.blk_device.specs.declared.device.Device.{Ghosts}
use Rattle.blk_device.specs.declared.device.Region.TheVariants.{Image}
use Rattle.meta_txn.specs.Joined.{Joined, written}
use Rattle.sblock.specs.Form.{Form}
use Rattle.tree_blocks.specs.Cached.{Follows}
use Rattle.tree_blocks.specs.declared.tree.TreeAt.{TreeAt}
use Rattle.tree_blocks.specs.declared.tree.WalkFault.{WalkFault}
use Rattle.tree_find.specs.Laws.{WhereHolds}
use Rattle.tree_find.specs.Meets.{Finds}
use Rattle.tree_walk.specs.Meets.{CountsTree}
use Rattle.tree_defs.specs.Sites.{group_blocks}
use Rattle.tree_defs.specs.declared.site.Site.{Site}

-- the group's blocks, with those that are joined, where a device tells its content
abbrev pub changed : Site → Joined → Option Contents → Option (ℕ → List ℕ)
changed site txn None = None
changed site txn (Some c) = Some (group_blocks site (written (c Image) txn))

-- what holds of a group's blocks as a transaction has changed them, where a device tells its content
abbrev pub OfEdited : Site → Joined → Option Contents → ((ℕ → List ℕ) → Type 0) → Type 0
OfEdited site txn content P = IfSome content (λ c. P (group_blocks site (written (c Image) txn)))

-- of these blocks, the blocks of this tree that a walk reads were counted
abbrev pub Counts : {A R K : Type 0} → Form R K → Site → Joined → Option Contents → TreeAt → ℕ → ℕ → Result A WalkFault → Type 0
Counts form site txn content tree before after result = OfEdited site txn content (λ m. CountsTree form site m tree before after result)

-- where such a tree is readable, the record with this key is answered, and none where there is none
abbrev pub FindsIn : {R K : Type 0} → Form R K → Site → (ℕ → List ℕ) → TreeAt → K → Result (Option R) WalkFault → Type 0
FindsIn form site m tree key result = WhereHolds form site m tree.root tree.levels (λ recs. Finds form key recs result)

-- The same four are referred to, the device was only read, and nothing was joined.
pub record Lasts {D C : Type 0} (g : Ghosts D) (dev_old dev_new : MutBor D) (cache_old cache_new : MutBor C) (steps_old steps_new : MutBor StepCount) (txn_old txn_new : MutBor Joined) : Type 0 where
  pub below : Follows g dev_old dev_new cache_old cache_new steps_old steps_new
  pub same_txn : txn_new.ghost_name ≡ txn_old.ghost_name
  pub joined : txn_new.now ≡ txn_old.now
