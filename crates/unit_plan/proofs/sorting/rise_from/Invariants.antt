use Rattle.std.proofs.Common.{◌≤◌}
use Rattle.unit_plan.specs.Rising.{RiseBetween}
use Rattle.unit_plan.proofs.sorting.rise_from.Given as goal

abbrev pub invariant-loop-first : goal.invariant-loop-first
invariant-loop-first l = record {
  within : l.first ≤ l.at;
  rises : RiseBetween l.pieces l.first l.at;
}

abbrev pub decreases-loop-first : goal.decreases-loop-first
decreases-loop-first l = l.first
