use Rattle.std.proofs.Common.{◌<◌, ◌≤◌, ◌-◌, length}
use Rattle.unit_plan.specs.Rising.{RiseBetween}
use Rattle.unit_plan.proofs.sorting.rise_to.Given as goal

abbrev pub invariant-loop-last : goal.invariant-loop-last
invariant-loop-last l = record {
  on : l.at ≤ l.last;
  within : l.last < length l.pieces;
  rises : RiseBetween l.pieces l.at l.last;
}

abbrev pub decreases-loop-last : goal.decreases-loop-last
decreases-loop-last l = length l.pieces - l.last
