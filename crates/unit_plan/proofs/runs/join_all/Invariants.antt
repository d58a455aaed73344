use Rattle.std.proofs.Common.{◌≡◌, ◌≤◌, length, map, All}
use Rattle.run_edits.specs.Edits.{is_before}
use Rattle.run_edits.specs.Pieces.{ArePieces}
use Rattle.sblock.specs.Lists.{Rises}
use Rattle.unit_plan.specs.Joined.{AreJoinedFrom, Fits}
use Rattle.unit_plan.specs.Lost.{of_piece}
use Rattle.unit_plan.proofs.runs.join_all.Given as goal

abbrev pub invariant-loop-left : goal.invariant-loop-left
invariant-loop-left l = record {
  within : l.left ≤ length l.pieces;
  long : length l.pieces ≡ length l.initial.pieces;
  rooms : All Fits (map of_piece l.pieces);
  sorted : Rises is_before (map of_piece l.pieces);
  joined : ArePieces (map of_piece l.initial.pieces) → AreJoinedFrom (map of_piece l.initial.pieces) l.left (map of_piece l.pieces);
}

abbrev pub decreases-loop-left : goal.decreases-loop-left
decreases-loop-left l = l.left
