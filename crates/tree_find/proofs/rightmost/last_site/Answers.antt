use Rattle.std.proofs.Common.{arith}
use Rattle.tree_find.proofs.FindLemmas.{whole_way}
use Rattle.tree_find.proofs.LastLemmas.{last_outside, last_within}
use Rattle.tree_find.proofs.rightmost.last_site.Goals as goal
use Rattle.tree_find.proofs.rightmost.last_site.Goals.{then-root-eq0-via-then-root-eq0, then-root-eq0-via-else-root-eq0+then-root-site}

pub returns-then-root-eq0-clause-exact : goal.returns-then-root-eq0-clause-exact
returns-then-root-eq0-clause-exact g c = λ m e.
    last_outside g.K.RecKind.form c.args.site.now m c.args.tree.now.root c.args.tree.now.levels
    (λ some below. elim c.then-root-eq0.branch [
      | then-root-eq0-via-then-root-eq0 w ↦ omega (arith, some, below)
      | then-root-eq0-via-else-root-eq0+then-root-site w ↦ omega (arith, some, below)
    ])

pub returns-clause-exact : goal.returns-clause-exact
returns-clause-exact g c = λ m e.
    last_within g.K.RecKind.form c.args.site.now m c.args.tree.now.root c.args.tree.now.levels c.top_level-level.result c.last_node.result (omega (arith, c.if-root-eq0.false)) (omega (arith, c.if-root-site.false)) c.top_level-level.ensures (c.last_node.ensures.exact m e)

pub returns-clause-few : goal.returns-clause-few
returns-clause-few g c =
    whole_way c.args.tree.now.levels c.top_level-level.result (g.B.Blocks.count c.args.blocks.now) (g.B.Blocks.count c.last_node.new.blocks) c.top_level-level.ensures c.last_node.ensures.few
