use Rattle.std.proofs.Common.{length}
use Rattle.core_units.specs.Tested.{LimboWithin}
use Rattle.core_units.proofs.claimed.limbo_lies.Given as goal

abbrev pub invariant-loop-run : goal.invariant-loop-run
invariant-loop-run l = LimboWithin l.limit l.rest → LimboWithin l.limit l.limbo

abbrev pub decreases-loop-run : goal.decreases-loop-run
decreases-loop-run l = length l.rest
