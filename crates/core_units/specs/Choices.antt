-- Which block is reserved next.
use Rattle.std.specs.Prelude.{◌≡◌, ◌⊎◌, ℕ, ◌<◌, ◌≤◌, Bool, false, List, [], length, slice_get, Some, None}
use Rattle.fs_model.specs.declared.unit.Unit.{Unit as ScrubUnit}
use Rattle.group_trees.specs.Trees.{reading_of}
use Rattle.group_trees.specs.declared.group.GroupTrees.{GroupTrees}
use Rattle.fs_state.specs.State.{recs_of}
use Rattle.unit_plan.specs.Spare.{IsLowest, is_spare}
use Rattle.unit_plan.specs.declared.piece.Piece.{Piece}
use Rattle.unit_plan.specs.declared.spare.SpaceTrust.{SpaceTrust}
use Rattle.core_units.specs.declared.lists.Lists.{Lists}
use Rattle.core_units.specs.declared.lists.Lists.TheVariants as lists
use Rattle.core_units.specs.declared.choice.Choice.{Choice}
use Rattle.core_units.specs.declared.choice.Choice.TheVariants.{Listed, Spare, NoBlock}

-- the block is spare for the unit: of free space by its derived list, of the others by the btrees that were gathered
abbrev pub is_spare_for : ScrubUnit → SpaceTrust → GroupTrees → Lists → List Piece → ℕ → Bool
is_spare_for unit trust trees (lists.Inode ino fino) ps = is_spare unit trust (recs_of (reading_of trees.bno)) (recs_of (reading_of trees.rmap)) ps
is_spare_for unit trust trees (lists.Rmap rmap) ps = is_spare unit trust (recs_of (reading_of trees.bno)) (recs_of (reading_of trees.rmap)) ps
is_spare_for unit trust trees (lists.Free bno cnt) ps = is_spare unit trust bno.items [] ps
is_spare_for unit trust trees (lists.Refc refc) ps = is_spare unit trust (recs_of (reading_of trees.bno)) (recs_of (reading_of trees.rmap)) ps

-- The list's front while the list has more than 8 blocks; else the lowest spare block; else the list's front. None
-- only where neither has one.
abbrev pub IsChoice : (ℕ → Bool) → List ℕ → Choice → Type 0
IsChoice spare list (Listed b) = (slice_get list 0 ≡ Some b) × ((8 < length list) ⊎ IsLowest spare None)
IsChoice spare list (Spare b) = (length list ≤ 8) × IsLowest spare (Some b)
IsChoice spare list NoBlock = (list ≡ []) × IsLowest spare None
