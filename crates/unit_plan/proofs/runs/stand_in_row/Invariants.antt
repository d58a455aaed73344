use Rattle.std.proofs.Common.{length, map}
use Rattle.unit_plan.specs.Joined.{StandInRow}
use Rattle.unit_plan.specs.Lost.{of_piece}
use Rattle.unit_plan.proofs.runs.stand_in_row.Given as goal

abbrev pub invariant-loop-piece : goal.invariant-loop-piece
invariant-loop-piece l = record {
  on : StandInRow (map of_piece l.rest) → StandInRow (map of_piece l.pieces);
  back : StandInRow (map of_piece l.pieces) → StandInRow (map of_piece l.rest);
}

abbrev pub decreases-loop-piece : goal.decreases-loop-piece
decreases-loop-piece l = length l.rest
