use Rattle.std.proofs.Common.{ℕ, refl, drop, ◌∙◌, ◌+◌, arith}
use Rattle.geom.specs.Layout.{split_of}
use Rattle.geom.specs.Places.{layout}
use Rattle.fork_pass.specs.Pieces.{block_piece, block_pieces, piece_where}
use Rattle.fork_pass.proofs.ForkLemmas.{more_first, none_more}
use Rattle.fork_pass.proofs.SetLemmas.{leaves_all, leaves_first, leaves_on}
use Rattle.fork_pass.proofs.pieces.put_blocks.Goals as goal

abbrev none : ℕ
none = 0

pub loop-block-init : goal.loop-block-init
loop-block-init c = leaves_first c.args.sets.now (block_pieces (layout c.args.geo.now) c.args.fork c.args.ino c.args.blocks.now) (block_pieces (layout c.args.geo.now) c.args.fork c.args.ino c.args.blocks.now) (λ g. refl)

pub put_block-requires : goal.put_block-requires
put_block-requires c = record { groups = c.loop-block.invariant.long ∙ c.requires.groups }

pub loop-block-preserved : goal.loop-block-preserved
loop-block-preserved c =
    leaves_on c.args.sets.now c.loop-block.sets c.put_block.new.sets (block_pieces (layout c.args.geo.now) c.args.fork c.args.ino c.args.blocks.now) (block_pieces (layout c.args.geo.now) c.args.fork c.args.ino (drop c.loop-block.block-index c.args.blocks.now)) (block_pieces (layout c.args.geo.now) c.args.fork c.args.ino (drop (c.loop-block.block-index + 1) c.args.blocks.now)) _ (λ g. more_first (λ b. piece_where g (block_piece c.args.fork c.args.ino) (split_of (layout c.args.geo.now) b)) c.args.blocks.now c.loop-block.block-index none c.loop-block-test.true) c.loop-block.invariant c.in_ok-put_block.ensures.put

pub returns-clause-put : goal.returns-clause-put
returns-clause-put c =
    leaves_all c.args.sets.now c.loop-block.sets (block_pieces (layout c.args.geo.now) c.args.fork c.args.ino c.args.blocks.now) (block_pieces (layout c.args.geo.now) c.args.fork c.args.ino (drop c.loop-block.block-index c.args.blocks.now)) (λ g. none_more (λ b. piece_where g (block_piece c.args.fork c.args.ino) (split_of (layout c.args.geo.now) b)) c.args.blocks.now c.loop-block.block-index (omega (arith, c.loop-block-test.false))) c.loop-block.invariant
