use Rattle.std.proofs.Common.{◌≡◌, ◌++◌, map, take}
use Rattle.unit_plan.specs.Sets.{pieces_of}
use Rattle.group_trees.specs.Metadata.{block_piece}
use Rattle.group_trees.proofs.metadata.put_blocks.Given as goal

-- the blocks so far
abbrev pub invariant-loop-block : goal.invariant-loop-block
invariant-loop-block l = pieces_of l.set ≡ pieces_of l.fn.set ++ map (block_piece l.claim l.owner) (take l.block-index l.blocks)
