use Rattle.std.proofs.Common.{arith}
use Rattle.std.proofs.lemmas.Result.{err_from_is_err_and}
use Rattle.tree_pieces.proofs.PieceLemmas.{none_behind, found_behind, bad_behind}
use Rattle.tree_pieces.proofs.below.piece_behind.Goals as goal

pub returns-then-i-count_of-clause-exact : goal.returns-then-i-count_of-clause-exact
returns-then-i-count_of-clause-exact g c = λ m e.
    none_behind g.K.RecKind.form c.args.site.now m c.args.after.now c.args.level c.args.i c.args.block.now.bytes c.args.met.now.items (omega (arith, c.if-i-count_of.true, c.count_of.ensures))

pub returns-clause-exact : goal.returns-clause-exact
returns-clause-exact g c = λ m e.
    found_behind g.K.RecKind.form c.args.site.now m c.args.after.now c.args.level c.args.i c.args.block.now.bytes c.args.met.now.items c.child_in-child.result c.in_ok-recs.recs.items c.first_piece.new.met.items (omega (arith, c.if-i-count_of.false, c.count_of.ensures)) c.child_in-child.ensures (c.in_ok-recs.ensures.exact m e)

pub returns-in_err-recs-clause-exact : goal.returns-in_err-recs-clause-exact
returns-in_err-recs-clause-exact g c = λ m e.
    let p = err_from_is_err_and c.from_residual.result c.from_residual.ensures.1 in
    rw (p.1, p.2) (bad_behind g.K.RecKind.form c.args.site.now m c.args.after.now c.args.level c.args.i c.args.block.now.bytes c.args.met.now.items c.child_in-child.result c.in_err-recs.field-0.0 (omega (arith, c.if-i-count_of.false, c.count_of.ensures)) c.child_in-child.ensures (c.in_err-recs.ensures.exact m e))
