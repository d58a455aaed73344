use Rattle.std.proofs.Common.{drop}
use Rattle.geom.specs.Places.{layout}
use Rattle.fork_pass.specs.Pieces.{block_pieces}
use Rattle.fork_pass.specs.Sets.{Leaves}
use Rattle.fork_pass.proofs.pieces.put_blocks.Given as goal

-- those that are left are still to be put
abbrev pub invariant-loop-block : goal.invariant-loop-block
invariant-loop-block l = Leaves l.fn.sets l.sets (block_pieces (layout l.geo) l.fork l.ino l.blocks) (block_pieces (layout l.geo) l.fork l.ino (drop l.block-index l.blocks))
