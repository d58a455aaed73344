use Rattle.std.proofs.Common.{arith}
use Rattle.tree_walk.proofs.WalkLemmas.{tree_outside, tree_refused, tree_read, outside_counted, refused_tree_counted, tree_counted}
use Rattle.tree_walk.proofs.walker.walk_site.Goals as goal
use Rattle.tree_walk.proofs.walker.walk_site.Goals.{then-root-eq0-via-then-root-eq0, then-root-eq0-via-else-root-eq0+then-root-site, then-tree-eq0-via-then-tree-eq0, then-tree-eq0-via-else-tree-eq0+then-tree-gt9}

pub returns-then-root-eq0-clause-exact : goal.returns-then-root-eq0-clause-exact
returns-then-root-eq0-clause-exact g c = λ m e.
    tree_outside g.K.RecKind.form c.args.site.now m c.args.tree.now.root c.args.tree.now.levels
    (λ some below. elim c.then-root-eq0.branch [
      | then-root-eq0-via-then-root-eq0 w ↦ omega (arith, some, below)
      | then-root-eq0-via-else-root-eq0+then-root-site w ↦ omega (arith, some, below)
    ])

pub returns-then-tree-eq0-clause-exact : goal.returns-then-tree-eq0-clause-exact
returns-then-tree-eq0-clause-exact g c = λ m e.
    tree_refused g.K.RecKind.form c.args.site.now m c.args.tree.now.root c.args.tree.now.levels c.refuse_levels.result (omega (arith, c.if-root-eq0.false)) (omega (arith, c.if-root-site.false))
    (λ least most. elim c.then-tree-eq0.branch [
      | then-tree-eq0-via-then-tree-eq0 w ↦ omega (arith, least, most)
      | then-tree-eq0-via-else-tree-eq0+then-tree-gt9 w ↦ omega (arith, least, most)
    ])
    (c.refuse_levels.ensures.exact m e)

pub returns-clause-exact : goal.returns-clause-exact
returns-clause-exact g c = λ m e.
    tree_read g.K.RecKind.form c.args.site.now m c.args.tree.now.root c.args.tree.now.levels c.walk_levels.result (omega (arith, c.if-root-eq0.false)) (omega (arith, c.if-root-site.false)) (omega (arith, c.if-tree-eq0.false)) (omega (arith, c.if-tree-gt9.false)) (c.walk_levels.ensures.exact m e)

pub returns-then-root-eq0-clause-counted : goal.returns-then-root-eq0-clause-counted
returns-then-root-eq0-clause-counted g c = λ m e.
    let none = outside_counted g.K.RecKind.form c.args.site.now m c.args.tree.now.root c.args.tree.now.levels
    (λ some below. elim c.then-root-eq0.branch [
      | then-root-eq0-via-then-root-eq0 w ↦ omega (arith, some, below)
      | then-root-eq0-via-else-root-eq0+then-root-site w ↦ omega (arith, some, below)
    ]) in
    omega (arith, none)

pub returns-then-tree-eq0-clause-counted : goal.returns-then-tree-eq0-clause-counted
returns-then-tree-eq0-clause-counted g c = λ m e.
    rw (refused_tree_counted g.K.RecKind.form c.args.site.now m c.args.tree.now.root c.args.tree.now.levels (omega (arith, c.if-root-eq0.false)) (omega (arith, c.if-root-site.false))
    (λ least most. elim c.then-tree-eq0.branch [
      | then-tree-eq0-via-then-tree-eq0 w ↦ omega (arith, least, most)
      | then-tree-eq0-via-else-tree-eq0+then-tree-gt9 w ↦ omega (arith, least, most)
    ])) (c.refuse_levels.ensures.counted m e)

pub returns-clause-counted : goal.returns-clause-counted
returns-clause-counted g c = λ m e.
    rw (tree_counted g.K.RecKind.form c.args.site.now m c.args.tree.now.root c.args.tree.now.levels (omega (arith, c.if-root-eq0.false)) (omega (arith, c.if-root-site.false)) (omega (arith, c.if-tree-eq0.false)) (omega (arith, c.if-tree-gt9.false))) (c.walk_levels.ensures.counted m e)
