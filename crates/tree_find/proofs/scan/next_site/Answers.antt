use Rattle.std.proofs.Common.{arith}
use Rattle.std.proofs.lemmas.Result.{err_from_is_err_and}
use Rattle.tree_find.proofs.NextLemmas.{next_outside, next_given, next_given_bad, sound_list, both_ways}
use Rattle.tree_find.proofs.scan.next_site.Goals as goal
use Rattle.tree_find.proofs.scan.next_site.Goals.{then-root-eq0-via-then-root-eq0, then-root-eq0-via-else-root-eq0+then-root-site}

pub returns-then-root-eq0-clause-exact : goal.returns-then-root-eq0-clause-exact
returns-then-root-eq0-clause-exact g c = λ m e.
    next_outside g.K.RecKind.form c.args.site.now m c.args.after.now c.args.tree.now.root c.args.tree.now.levels
    (λ some below. elim c.then-root-eq0.branch [
      | then-root-eq0-via-then-root-eq0 w ↦ omega (arith, some, below)
      | then-root-eq0-via-else-root-eq0+then-root-site w ↦ omega (arith, some, below)
    ])

pub returns-clause-exact : goal.returns-clause-exact
returns-clause-exact g c = λ m e.
    next_given g.K.RecKind.form c.args.site.now m c.args.after.now c.args.tree.now.root c.args.tree.now.levels c.top_level-level.result c.in_ok-found.found c.records_in.result (omega (arith, c.if-root-eq0.false)) (omega (arith, c.if-root-site.false)) c.top_level-level.ensures (c.in_ok-found.ensures.exact m e) c.records_in.ensures.some c.records_in.ensures.none

pub returns-clause-sound : goal.returns-clause-sound
returns-clause-sound g c =
    sound_list g.K.RecKind.form c.args.site.now.bounds c.args.after.now c.in_ok-found.found c.records_in.result c.in_ok-found.ensures.sound c.records_in.ensures.some c.records_in.ensures.none

pub returns-clause-few : goal.returns-clause-few
returns-clause-few g c =
    both_ways c.args.tree.now.levels c.top_level-level.result (g.B.Blocks.count c.args.blocks.now) (g.B.Blocks.count c.next_node.new.blocks) c.top_level-level.ensures c.next_node.ensures.few

pub returns-in_err-found-clause-exact : goal.returns-in_err-found-clause-exact
returns-in_err-found-clause-exact g c = λ m e.
    let p = err_from_is_err_and c.from_residual.result c.from_residual.ensures.1 in
    rw (p.1, p.2) (next_given_bad g.K.RecKind.form c.args.site.now m c.args.after.now c.args.tree.now.root c.args.tree.now.levels c.top_level-level.result c.in_err-found.field-0.0 (omega (arith, c.if-root-eq0.false)) (omega (arith, c.if-root-site.false)) c.top_level-level.ensures (c.in_err-found.ensures.exact m e))

pub returns-in_err-found-clause-few : goal.returns-in_err-found-clause-few
returns-in_err-found-clause-few g c =
    both_ways c.args.tree.now.levels c.top_level-level.result (g.B.Blocks.count c.args.blocks.now) (g.B.Blocks.count c.next_node.new.blocks) c.top_level-level.ensures c.next_node.ensures.few
