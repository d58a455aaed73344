use Rattle.std.proofs.Common.{length}
use Rattle.core_units.specs.Tested.{OwnersWithin}
use Rattle.core_units.proofs.claimed.owners_lie.Given as goal

abbrev pub invariant-loop-run : goal.invariant-loop-run
invariant-loop-run l = OwnersWithin l.limit l.rest → OwnersWithin l.limit l.owners

abbrev pub decreases-loop-run : goal.decreases-loop-run
decreases-loop-run l = length l.rest
