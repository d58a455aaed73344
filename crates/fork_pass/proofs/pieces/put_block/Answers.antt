use Rattle.std.proofs.Common.{refl, sym, ◌∙◌}
use Rattle.geom.specs.Layout.{split_of}
use Rattle.geom.specs.Places.{layout}
use Rattle.fork_pass.specs.Pieces.{block_piece}
use Rattle.fork_pass.proofs.PieceLemmas.{none_put, one_put}
use Rattle.fork_pass.proofs.pieces.put_block.Goals as goal

pub returns-in_default-clause-put : goal.returns-in_default-clause-put
returns-in_default-clause-put c = none_put c.args.sets.now (block_piece c.args.fork c.args.ino) (split_of (layout c.args.geo.now) c.args.block) (sym c.split_fs_block.ensures.exact ∙ c.in_default.is)

pub returns-clause-put : goal.returns-clause-put
returns-clause-put c =
    one_put c.args.sets.now c.put_piece.new.sets (block_piece c.args.fork c.args.ino) (split_of (layout c.args.geo.now) c.args.block) c.in-Some.place _ (sym c.split_fs_block.ensures.exact ∙ c.in-Some.is) (rw (c.flag_of.ensures) refl) c.in_ok-put_piece.ensures.put
