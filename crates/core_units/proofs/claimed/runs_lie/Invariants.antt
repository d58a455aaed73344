use Rattle.std.proofs.Common.{length}
use Rattle.core_units.specs.Tested.{RunsWithin}
use Rattle.core_units.proofs.claimed.runs_lie.Given as goal

abbrev pub invariant-loop-run : goal.invariant-loop-run
invariant-loop-run l = RunsWithin l.limit l.rest → RunsWithin l.limit l.runs

abbrev pub decreases-loop-run : goal.decreases-loop-run
decreases-loop-run l = length l.rest
