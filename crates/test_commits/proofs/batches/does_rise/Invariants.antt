use Rattle.std.proofs.Common.{◌≡◌, length}
use Rattle.redo_area.specs.Table.{places, rises}
use Rattle.test_commits.proofs.batches.does_rise.Given as goal

abbrev pub invariant-loop-number : goal.invariant-loop-number
invariant-loop-number l = rises l.least l.size (places l.rest) ≡ rises 0 l.size (places l.batch)

abbrev pub decreases-loop-number : goal.decreases-loop-number
decreases-loop-number l = length l.rest
