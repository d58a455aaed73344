use Rattle.std.proofs.Common.{length}
use Rattle.block_reap.specs.Limbo.{IsLimbo}
use Rattle.core_build.proofs.block_notes.put_freed.Given as goal

abbrev pub invariant-loop-block : goal.invariant-loop-block
invariant-loop-block l = IsLimbo l.limbo.items

abbrev pub decreases-loop-block : goal.decreases-loop-block
decreases-loop-block l = length l.rest
