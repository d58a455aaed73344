-- The lists once a switch has let go of the old btrees, and the blocks that it loses.
use Rattle.std.specs.Prelude.{◌≡◌, ℕ, Bool, true, false, List, ◌++◌, map, Option}
use Rattle.block_reap.specs.Limbo.{owner_of_unit}
use Rattle.block_reap.specs.declared.runs.LimboRun.{LimboRun}
use Rattle.derive_defs.specs.Mappings.{EndWithin}
use Rattle.fs_model.specs.declared.claim.Claim.TheVariants.{Limbo}
use Rattle.fs_model.specs.declared.unit.Unit.{Unit as ScrubUnit}
use Rattle.fs_model.specs.declared.unit.Unit.TheVariants as units
use Rattle.fs_state.specs.State.{recs_of}
use Rattle.geom.specs.declared.geometry.Run3.{Run3}
use Rattle.group_trees.specs.Group.{tree_blocks}
use Rattle.group_trees.specs.Trees.{reading_of}
use Rattle.group_trees.specs.declared.group.GroupTrees.{GroupTrees}
use Rattle.group_trees.specs.declared.reads.TreeSeen.{TreeSeen}
use Rattle.group_trees.specs.declared.reads.TreeSeen.TheVariants as seen
use Rattle.rmap_recs.specs.Owners.{number_of}
use Rattle.rmap_recs.specs.declared.records.RmapRec.{RmapRec}
use Rattle.run_sets.specs.Runs.{AreRunsBelow, EndWithin as RunsEnd}
use Rattle.run_sets.specs.declared.run.Run.{Run}
use Rattle.unit_plan.specs.Lost.{is_of_old, is_unclaimed, is_unlisted}
use Rattle.unit_plan.specs.Sets.{LieBelow}
use Rattle.unit_plan.specs.Spans.{span_run}
use Rattle.unit_plan.specs.declared.piece.Piece.{Piece}
use Rattle.rmap_recs.specs.Rmap.{rmap_form}
use Rattle.sblock.specs.Blocks.{IsRising}
use Rattle.unit_plan.specs.Joined.{AreRunsOf, ClaimOnce}
use Rattle.core_units.specs.declared.lists.Lists.{Lists}
use Rattle.core_units.specs.declared.lists.Lists.TheVariants as lists
use Rattle.core_units.specs.Claims.{group_pieces, owner_piece}

abbrev pub is_whole_tree : {R : Type 0} → TreeSeen R → Bool
is_whole_tree (seen.Whole read) = true
is_whole_tree (seen.Bad block fault claims) = false

-- free space is told by the btree by start, where it can be read
abbrev pub lost_if_listed : Bool → GroupTrees → List Piece → ℕ → Bool
lost_if_listed true trees ps = is_unlisted (recs_of (reading_of trees.bno)) ps
lost_if_listed false trees ps = λ b. false

-- the block is lost by a switch of the unit
abbrev pub is_lost : ScrubUnit → GroupTrees → List Piece → ℕ → Bool
is_lost units.Inode trees ps = is_of_old (is_whole_tree trees.ino) (is_whole_tree trees.fino) ps
is_lost units.Rmap trees ps = lost_if_listed (is_whole_tree trees.bno) trees ps
is_lost units.Free trees ps = is_unclaimed units.Free (number_of (owner_of_unit units.Free)) (recs_of (reading_of trees.rmap)) ps
is_lost units.Refc trees ps = is_unclaimed units.Refc (number_of (owner_of_unit units.Refc)) (recs_of (reading_of trees.rmap)) ps

-- what was gathered lies in a group of this length
pub record LieWithin (length : ℕ) (trees : GroupTrees) (ps : List Piece) : Type 0 where
  pub pieces : LieBelow length ps
  pub free : RunsEnd length (map span_run (recs_of (reading_of trees.bno)))
  pub mappings : EndWithin length (recs_of (reading_of trees.rmap))

-- a lost run, which waits to be freed
abbrev pub lost_piece : ℕ → Run → Piece
lost_piece owner r = record { claim = Limbo; run = r; owner = owner; word = 0 }

-- all claims of the group without the old btree of reverse mappings, and with the lost runs
abbrev pub pieces_after : Option Run3 → ℕ → List ℕ → GroupTrees → List LimboRun → List RmapRec → List ℕ → List Run → List Piece
pieces_after log g list trees limbo owners chunks lost =
    (group_pieces log g list false (tree_blocks trees) limbo chunks ++ map owner_piece owners) ++ map (lost_piece (number_of (owner_of_unit units.Rmap))) lost

-- reverse mappings follow the claims after the switch; the other lists stay
abbrev pub AreListsAfter : List Piece → (old new : Lists) → Type 0
AreListsAfter ps (lists.Rmap rmap) (lists.Rmap after) = IsRising rmap_form after.items × (ClaimOnce ps → AreRunsOf ps after.items)
AreListsAfter ps old new = new ≡ old
