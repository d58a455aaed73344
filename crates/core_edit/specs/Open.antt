-- An open edit as it begins, its mark, and the way back.
use Rattle.std.specs.Prelude.{◌≡◌, ◌<◌, ℕ, Bool, true, false, List, [], ◌∷◌, ◌++◌, map, take, vec_len, Option, Some, None}
use Rattle.ag_headers.specs.Ring.{entries}
use Rattle.blk_device.specs.Contents.{Contents}
use Rattle.redo_area.specs.Area.{Batch}
use Rattle.geom.specs.Layout.{Layout, device_block_of}
use Rattle.join_blocks.specs.Joins.{AreFound}
use Rattle.meta_txn.specs.Joined.{empty}
use Rattle.rmap_recs.specs.Owners.{number_of}
use Rattle.rmap_recs.specs.declared.owner.Owner.TheVariants.{Ag, Inobt, Refc as OfRefc}
use Rattle.sblock.specs.declared.kind.Kind.{Kind}
use Rattle.sblock.specs.declared.kind.Kind.TheVariants.{Bno, Cnt, Rmap, Refc, Ino, Fino}
use Rattle.fs_state.specs.State.{Owned}
use Rattle.fs_change.specs.Switch.{owned_by}
use Rattle.core_edit.specs.declared.heads.EditHeads.{EditHeads}
use Rattle.core_edit.specs.declared.open.Freed.{Freed}
use Rattle.core_edit.specs.declared.open.FreedLens.{FreedLens}
use Rattle.core_edit.specs.declared.open.OpenEdit.{OpenEdit}
use Rattle.core_edit.specs.declared.stop.Stop.{Stop}
use Rattle.core_edit.specs.declared.stop.Stop.TheVariants as stops

-- the stop is the device's
abbrev pub is_device : Stop → Bool
is_device (stops.Left kind cause) = false
is_device stops.Failed = true
is_device stops.Memory = false

-- ---- what went to limbo

-- the blocks of trees with the owner of this kind's
abbrev pub limbo_of : Kind → Freed → List ℕ
limbo_of Bno f = f.ag.items
limbo_of Cnt f = f.ag.items
limbo_of Rmap f = f.ag.items
limbo_of Refc f = f.refc.items
limbo_of Ino f = f.inobt.items
limbo_of Fino f = f.inobt.items

abbrev pub freed_blocks : Freed → List ℕ
freed_blocks f = f.ag.items ++ (f.inobt.items ++ f.refc.items)

-- each with its owner
abbrev pub freed_owned : Freed → List Owned
freed_owned f = map (owned_by (number_of Ag)) f.ag.items ++ (map (owned_by (number_of Inobt)) f.inobt.items ++ map (owned_by (number_of OfRefc)) f.refc.items)

-- the blocks of list and limbo, as the edit has them
abbrev pub outside : OpenEdit → List ℕ
outside e = entries e.heads.list ++ freed_blocks e.freed

-- the first so many of each
pub record IsCut (old : Freed) (lens : FreedLens) (new : Freed) : Type 0 where
  pub ag : new.ag.items ≡ take lens.ag old.ag.items
  pub inobt : new.inobt.items ≡ take lens.inobt old.inobt.items
  pub refc : new.refc.items ≡ take lens.refc old.refc.items

-- ---- marks

-- so many of each there are
pub record HasLens (lens : FreedLens) (f : Freed) : Type 0 where
  pub ag : vec_len f.ag ≡ lens.ag
  pub inobt : vec_len f.inobt ≡ lens.inobt
  pub refc : vec_len f.refc ≡ lens.refc

-- nothing was edited since the last mark
pub record AtMark (e : OpenEdit) : Type 0 where
  pub joined : e.txn.marked ≡ e.txn.blocks
  pub heads : e.marked ≡ e.heads
  pub freed : HasLens e.lens e.freed

-- all is as it was, and marked
pub record IsMarked (old new : OpenEdit) : Type 0 where
  pub group : new.group ≡ old.group
  pub heads : new.heads ≡ old.heads
  pub joined : new.txn.blocks ≡ old.txn.blocks
  pub freed : new.freed ≡ old.freed

-- all is as it was at the last mark
pub record IsBack (old new : OpenEdit) : Type 0 where
  pub group : new.group ≡ old.group
  pub heads : new.heads ≡ old.marked
  pub joined : new.txn.blocks ≡ old.txn.marked
  pub freed : IsCut old.freed old.lens new.freed
  pub marked : new.marked ≡ old.marked
  pub still : new.txn.marked ≡ old.txn.marked
  pub lens : new.lens ≡ old.lens

-- ---- opening

abbrev pub LiesBelow : ℕ → Option ℕ → Type 0
LiesBelow size None = Unit {0}
LiesBelow size (Some at) = at < size

-- block 0 is joined as it is found, and so is the inode's block, where there is one
abbrev pub AreBothFound : Option Contents → ℕ → Option ℕ → Batch → Type 0
AreBothFound told first None blocks = AreFound told first (0 ∷ []) [] blocks
AreBothFound told first (Some at) blocks = (mid : Batch) × AreFound told first (0 ∷ []) [] mid × AreFound told at (0 ∷ []) mid blocks

-- nothing is edited yet
pub record IsOpened (at : Layout) (told : Option Contents) (g : ℕ) (heads : EditHeads) (inode : Option ℕ) (e : OpenEdit) : Type 0 where
  pub group : e.group ≡ g
  pub heads_are : e.heads ≡ heads
  pub freed : freed_blocks e.freed ≡ []
  pub joined : AreBothFound told (device_block_of at g 0) inode e.txn.blocks
  pub marked : AtMark e

-- nothing is joined, edited or in limbo
pub record IsEmpty (e : OpenEdit) : Type 0 where
  pub freed : freed_blocks e.freed ≡ []
  pub joined : e.txn ≡ empty
  pub marked : AtMark e
