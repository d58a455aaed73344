use Rattle.std.proofs.Common.{◌∙◌, ℕ, ap, subst, sym}
use Rattle.blk_device.specs.declared.device.Region.TheVariants.{Image}
use Rattle.fs_state.specs.Kinds.{level_of, root_of}
use Rattle.geom.specs.Places.{layout}
use Rattle.group_trees.specs.Heads.{heads_seen}
use Rattle.group_trees.specs.Trees.{IsSound}
use Rattle.tree_defs.specs.Sites.{bounds_of}
use Rattle.core_units.specs.Standing.{IsBegun, IsFirm, IsMade}
use Rattle.core_units.proofs.StandingLemmas.{at_numbers}
use Rattle.core_units.proofs.tree.gather_tree.Goals as goal

pub returns-clause-exact : goal.returns-clause-exact
returns-clause-exact g c = λ m e bad firm begun.
    let form = g.K.RecKind.form in
    let at = layout c.args.geo.now in
    let heads = heads_seen c.args.heads.now in
    let t = c.tree_at-tree.result in
    let group = c.tree_at-tree.ensures.group in
    let root = c.tree_at-tree.ensures.root ∙ ap (root_of heads) c.kind.ensures in
    let levels = c.tree_at-tree.ensures.levels ∙ ap (level_of heads) c.kind.ensures in
    let here = at_numbers (λ n r l. IsFirm form at (m Image) n r l bad) c.args.g t.group (root_of heads form.kind) t.root (level_of heads form.kind) t.levels (sym group) (sym root) (sym levels) firm in
    let first = at_numbers (λ n r l. IsBegun form at (m Image) n r l bad c.args.seen.now) c.args.g t.group (root_of heads form.kind) t.root (level_of heads form.kind) t.levels (sym group) (sym root) (sym levels) begun in
    let made = c.settle.ensures.exact at (m Image) t.group t.root t.levels bad (c.in_ok-leaf.ensures.exact m e bad here first) in
    at_numbers (λ n r l. IsMade form at (m Image) n r l bad c.settle.new.seen c.settle.result) t.group c.args.g t.root (root_of heads form.kind) t.levels (level_of heads form.kind) group root levels made

pub returns-clause-sound : goal.returns-clause-sound
returns-clause-sound g c = λ sound.
    let form = g.K.RecKind.form in
    let at = layout c.args.geo.now in
    let group = c.tree_at-tree.ensures.group in
    let here = subst (λ (n : ℕ). IsSound form (bounds_of at n) c.args.seen.now) (sym group) sound in
    subst (λ (n : ℕ). IsSound form (bounds_of at n) c.settle.new.seen) group (c.settle.ensures.sound (bounds_of at c.tree_at-tree.result.group) (c.in_ok-leaf.ensures.sound here))
