use Rattle.std.proofs.Common.{length}
use Rattle.sblock.specs.Blocks.{AreBlocks}
use Rattle.load_trees.proofs.given.are_blocks.Given as goal

abbrev pub invariant-loop-block : goal.invariant-loop-block
invariant-loop-block l = record {
  on : AreBlocks l.group l.rest → AreBlocks l.group l.claimed;
  back : AreBlocks l.group l.claimed → AreBlocks l.group l.rest;
}

abbrev pub decreases-loop-block : goal.decreases-loop-block
decreases-loop-block l = length l.rest
