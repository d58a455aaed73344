use Rattle.std.proofs.Common.{refl, sym, ◌∙◌}
use Rattle.geom.specs.Layout.{split_of}
use Rattle.geom.specs.Places.{layout}
use Rattle.fork_pass.specs.Pieces.{mapping_piece}
use Rattle.fork_pass.proofs.PieceLemmas.{none_put, offset_low, one_put}
use Rattle.fork_pass.proofs.pieces.put_mapping.Goals as goal

pub word_of-requires : goal.word_of-requires
word_of-requires c = offset_low (layout c.args.geo.now) c.args.fork c.args.m.now c.requires.range

pub returns-in_default-clause-put : goal.returns-in_default-clause-put
returns-in_default-clause-put c = none_put c.args.sets.now (mapping_piece c.args.fork c.args.ino c.args.m.now) (split_of (layout c.args.geo.now) c.args.m.now.block) (sym c.split_fs_block.ensures.exact ∙ c.in_default.is)

pub returns-clause-put : goal.returns-clause-put
returns-clause-put c =
    one_put c.args.sets.now c.put_piece.new.sets (mapping_piece c.args.fork c.args.ino c.args.m.now) (split_of (layout c.args.geo.now) c.args.m.now.block) c.in-Some.place _ (sym c.split_fs_block.ensures.exact ∙ c.in-Some.is) (rw (c.claim_of.ensures, c.word_of.ensures) refl) c.in_ok-put_piece.ensures.put
