use Rattle.std.proofs.Common.{length}
use Rattle.run_edits.specs.Edits.{AreSorted}
use Rattle.core_units.proofs.orderly.are_sorted.Given as goal

abbrev pub invariant-loop-map : goal.invariant-loop-map
invariant-loop-map l = AreSorted l.rest → AreSorted l.maps

abbrev pub decreases-loop-map : goal.decreases-loop-map
decreases-loop-map l = length l.rest
