-- What stands in a group once the blocks that were made are joined. `first` is the image's number of its block 0.
use Rattle.std.specs.Prelude.{◌≡◌, ℕ, ◌+◌, true, List, Some}
use Rattle.byte_fields.specs.Fields.{field}
use Rattle.byte_fields.specs.declared.block.Block.{Block}
use Rattle.redo_area.specs.Area.{Batch, Blocks}
use Rattle.meta_txn.specs.Joined.{Joined, bytes_at, written}
use Rattle.tree_defs.specs.Lists.{In}
use Rattle.tree_defs.specs.Sites.{group_blocks}
use Rattle.tree_defs.specs.declared.site.Site.{Site}
use Rattle.join_blocks.specs.Joins.{is_joined, placed_in, with_all}
use Rattle.over_blocks.specs.Over.{over}
use Rattle.draft_check.specs.Drafts.{AreStamped, HasBytes}

-- through the transaction the group is read as with these blocks over it
abbrev pub ReadsOver : Type 0
ReadsOver = (site : Site) (image : Blocks) (placed : List (ℕ × Block)) (old new : Joined) → new.blocks ≡ with_all site.first placed old.blocks → group_blocks site (written image new) ≡ over placed (group_blocks site (written image old))

-- every other block is as it was, joined and through the transaction
abbrev pub LeavesOthers : Type 0
LeavesOthers = (image : Blocks) (first at : ℕ) (placed : List (ℕ × Block)) (old new : Joined) → new.blocks ≡ with_all first placed old.blocks → ((b : ℕ) → In b (placed_in placed) → first + b ≡ at → ⊥) → (bytes_at at new.blocks ≡ bytes_at at old.blocks) × (written image new at ≡ written image old at)

-- at a number of these stand the bytes of one of them
abbrev pub PutsOneOf : Type 0
PutsOneOf = (first : ℕ) (placed : List (ℕ × Block)) (joined : Batch) (b : ℕ) → In b (placed_in placed) → (bytes : List ℕ) × (bytes_at (first + b) (with_all first placed joined) ≡ Some bytes) × HasBytes b bytes placed

-- and its log sequence number, where all have the same
abbrev pub PutsStamped : Type 0
PutsStamped = (first lsn : ℕ) (placed : List (ℕ × Block)) (joined : Batch) (b : ℕ) → AreStamped lsn placed → In b (placed_in placed) → (bytes : List ℕ) × (bytes_at (first + b) (with_all first placed joined) ≡ Some bytes) × (field 8 bytes 24 ≡ lsn)

-- a number that is joined stays so
abbrev pub KeepsJoined : Type 0
KeepsJoined = (first at : ℕ) (placed : List (ℕ × Block)) (joined : Batch) → is_joined joined at ≡ true → is_joined (with_all first placed joined) at ≡ true
