use Rattle.std.proofs.Common.{◌+◌, arith, ap, ◌∙◌}
use Rattle.inode_scan.proofs.SearchLemmas.{outside, within, all_reads, on_ok}
use Rattle.inode_scan.proofs.search.search_site.Goals as goal
use Rattle.inode_scan.proofs.search.search_site.Goals.{then-root-eq0-via-then-root-eq0, then-root-eq0-via-else-root-eq0+then-root-site}

pub returns-then-root-eq0-clause-exact : goal.returns-then-root-eq0-clause-exact
returns-then-root-eq0-clause-exact g c = λ m e.
    outside c.args.site.now m c.args.from c.args.end c.args.tree.now.root c.args.tree.now.levels
    (λ some below. elim c.then-root-eq0.branch [
      | then-root-eq0-via-then-root-eq0 w ↦ omega (arith, some, below)
      | then-root-eq0-via-else-root-eq0+then-root-site w ↦ omega (arith, some, below)
    ])

pub returns-clause-exact : goal.returns-clause-exact
returns-clause-exact g c = λ m e.
    within c.args.site.now m c.args.from c.args.end c.args.tree.now.root c.args.tree.now.levels c.top_level-level.result c.search_node.result (omega (arith, c.if-root-eq0.false)) (omega (arith, c.if-root-site.false)) c.top_level-level.ensures (c.search_node.ensures.exact m e)

pub returns-clause-counted : goal.returns-clause-counted
returns-clause-counted g c = λ m e.
    let same = all_reads c.args.site.now m c.args.from c.args.end c.args.tree.now.root c.args.tree.now.levels c.top_level-level.result c.top_level-level.ensures in
    on_ok c.search_node.result _ _ (λ counted. counted ∙ ap (λ n. g.B.Blocks.count c.args.blocks.now + n) same) (c.search_node.ensures.counted m e)
