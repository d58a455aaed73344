use Rattle.std.proofs.Common.{◌≡◌, ◌∙◌, ℕ, ◌+◌, ◌≤◌, Some, subst}
use Rattle.std.proofs.lemmas.Result.{IfOk-weaker}
use Rattle.blk_device.specs.Contents.{Contents}
use Rattle.blk_device.specs.declared.device.Region.TheVariants.{Image}
use Rattle.geom.specs.Places.{layout}
use Rattle.group_trees.specs.Heads.{heads_seen}
use Rattle.group_trees.specs.Trees.{reading_of, tree_in}
use Rattle.group_trees.proofs.CountLemmas.{tree_named as tree_counted}
use Rattle.group_trees.proofs.ReadLemmas.{tree_named}
use Rattle.group_trees.proofs.trees.read_kind.Goals as goal

pub returns-clause-exact : goal.returns-clause-exact
returns-clause-exact g c =
    let tree = c.tree_at-tree.result in
    IfOk-weaker c.read_tree.result (λ seen. (m : Contents) → g.D.Device.content c.args.dev.now ≡ Some m → reading_of seen ≡ tree_in g.K.RecKind.form (layout c.args.geo.now) (m Image) tree.group tree.root tree.levels) _
    (λ seen is m e. is m e ∙ tree_named g.K.RecKind.form (layout c.args.geo.now) (m Image) c.args.g tree.group tree.root tree.levels c.kind.result (heads_seen c.args.heads.now) c.kind.ensures c.tree_at-tree.ensures.group c.tree_at-tree.ensures.root c.tree_at-tree.ensures.levels (c.requires.heads m e))
    c.read_tree.ensures.exact

pub returns-clause-counted : goal.returns-clause-counted
returns-clause-counted g c = λ m e.
    let tree = c.tree_at-tree.result in
    subst (λ (n : ℕ). c.read_tree.new.steps.reads ≤ c.args.steps.now.reads + n)
    (tree_counted g.K.RecKind.form (layout c.args.geo.now) (m Image) c.args.g tree.group tree.root tree.levels c.kind.result (heads_seen c.args.heads.now) c.kind.ensures c.tree_at-tree.ensures.group c.tree_at-tree.ensures.root c.tree_at-tree.ensures.levels (c.requires.heads m e))
    (c.read_tree.ensures.counted m e)
