use Rattle.std.proofs.Common.{length}
use Rattle.core_units.specs.Tested.{BlocksWithin}
use Rattle.core_units.proofs.claimed.blocks_lie.Given as goal

abbrev pub invariant-loop-block : goal.invariant-loop-block
invariant-loop-block l = BlocksWithin l.limit l.rest → BlocksWithin l.limit l.blocks

abbrev pub decreases-loop-block : goal.decreases-loop-block
decreases-loop-block l = length l.rest
