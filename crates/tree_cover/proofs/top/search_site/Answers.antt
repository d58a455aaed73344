use Rattle.std.proofs.Common.{arith}
use Rattle.tree_cover.proofs.TopLemmas.{outside, levels_refused, searched}
use Rattle.tree_cover.proofs.top.search_site.Goals as goal
use Rattle.tree_cover.proofs.top.search_site.Goals.{then-root-eq0-via-then-root-eq0, then-root-eq0-via-else-root-eq0+then-root-site, then-tree-eq0-via-then-tree-eq0, then-tree-eq0-via-else-tree-eq0+then-tree-gt9}

pub returns-then-root-eq0-clause-exact : goal.returns-then-root-eq0-clause-exact
returns-then-root-eq0-clause-exact g c = λ m e.
    outside g.K.RecKind.form c.args.site.now m c.args.asked.now.run c.args.asked.now.after c.args.tree.now.root c.args.tree.now.levels
    (λ some below. elim c.then-root-eq0.branch [
      | then-root-eq0-via-then-root-eq0 w ↦ omega (arith, some, below)
      | then-root-eq0-via-else-root-eq0+then-root-site w ↦ omega (arith, some, below)
    ])

pub returns-then-tree-eq0-clause-exact : goal.returns-then-tree-eq0-clause-exact
returns-then-tree-eq0-clause-exact g c = λ m e.
    levels_refused g.K.RecKind.form c.args.site.now m c.args.asked.now.run c.args.asked.now.after c.args.tree.now.root c.args.tree.now.levels c.refuse_levels.result (omega (arith, c.if-root-eq0.false)) (omega (arith, c.if-root-site.false))
    (λ least most. elim c.then-tree-eq0.branch [
      | then-tree-eq0-via-then-tree-eq0 w ↦ omega (arith, least, most)
      | then-tree-eq0-via-else-tree-eq0+then-tree-gt9 w ↦ omega (arith, least, most)
    ])
    (c.refuse_levels.ensures.refused m e)

pub returns-clause-exact : goal.returns-clause-exact
returns-clause-exact g c = λ m e.
    searched g.K.RecKind.form c.args.site.now m c.args.asked.now.run c.args.asked.now.after c.args.tree.now.root c.args.tree.now.levels c.search.result (omega (arith, c.if-root-eq0.false)) (omega (arith, c.if-root-site.false)) (omega (arith, c.if-tree-eq0.false)) (omega (arith, c.if-tree-gt9.false)) (c.search.ensures.exact m e)
