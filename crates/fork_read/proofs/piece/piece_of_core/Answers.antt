use Rattle.geom.specs.Places.{layout}
use Rattle.fork_read.proofs.PieceLemmas.{form_none}
use Rattle.std.proofs.Common.{[], None, refl, arith}
use Rattle.fork_read.proofs.RangeLemmas.{inline_ranged}
use Rattle.fork_read.proofs.SizeLemmas.{inline_sized}
use Rattle.fork_read.proofs.SpendLemmas.{nothing_spent}
use Rattle.blk_device.specs.declared.device.Region.TheVariants.{Image}
use Rattle.std.proofs.lemmas.Result.{IfOk-weaker}
use Rattle.fork_read.proofs.piece.piece_of_core.Goals as goal

pub tree_piece-requires-clause-form : goal.tree_piece-requires-clause-form
tree_piece-requires-clause-form g c = form_none (layout c.args.geo.now) c.args.core.now c.args.fork c.in_ok-mappings.ensures.0

pub returns-clause-size : goal.returns-clause-size
returns-clause-size g c =
    inline_sized (layout c.args.geo.now) c.args.core.now c.args.fork c.args.from c.as_slice.result.now c.in_ok-mappings.mappings.items [] c.piece_of.result c.in_ok-mappings.ensures.0 c.in_ok-mappings.ensures.1 c.as_slice.ensures.value c.piece_of.ensures.piece

pub returns-clause-range : goal.returns-clause-range
returns-clause-range g c =
    inline_ranged (layout c.args.geo.now) c.args.core.now c.args.fork c.args.from c.as_slice.result.now c.in_ok-mappings.mappings.items [] None c.piece_of.result c.in_ok-mappings.ensures.0 c.in_ok-mappings.ensures.1 c.as_slice.ensures.value c.piece_of.ensures.piece

pub returns-in_err-mappings-clause-spent : goal.returns-in_err-mappings-clause-spent
returns-in_err-mappings-clause-spent g c = λ m e. nothing_spent (layout c.args.geo.now) (m Image) c.args.core.now c.args.fork c.args.from c.args.steps.now.reads c.args.steps.now.reads refl

pub returns-clause-spent : goal.returns-clause-spent
returns-clause-spent g c = λ m e. nothing_spent (layout c.args.geo.now) (m Image) c.args.core.now c.args.fork c.args.from c.args.steps.now.reads c.args.steps.now.reads refl

pub returns-clause-paid : goal.returns-clause-paid
returns-clause-paid g c = IfOk-weaker c.piece_of.result _ _ (λ piece _ m e. omega arith) c.piece_of.ensures.piece
