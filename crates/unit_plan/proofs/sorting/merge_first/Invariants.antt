use Rattle.std.proofs.Common.{◌≤◌, ◌+◌, length}
use Rattle.std.specs.List.Sorted.{IsPermutation}
use Rattle.unit_plan.proofs.sorting.merge_first.Given as goal

abbrev pub invariant-loop-left : goal.invariant-loop-left
invariant-loop-left l = record {
  within : l.at + l.left ≤ length l.pieces;
  kept : IsPermutation l.initial.pieces l.pieces;
}

abbrev pub decreases-loop-left : goal.decreases-loop-left
decreases-loop-left l = l.left
