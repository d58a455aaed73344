use Rattle.std.proofs.Common.{subst}
use Rattle.blk_device.specs.declared.device.Region.TheVariants.{Image}
use Rattle.geom.specs.Places.{layout}
use Rattle.tree_blocks.proofs.ReadingLemmas.{each_told}
use Rattle.core_units.specs.Standing.{IsBegun}
use Rattle.core_units.proofs.StandingLemmas.{seen_made}
use Rattle.core_units.proofs.tree.gather_seen.Goals as goal

pub returns-in-Whole-clause-exact : goal.returns-in-Whole-clause-exact
returns-in-Whole-clause-exact g c = λ m e bad firm begun.
    seen_made g.K.RecKind.form (layout c.args.geo.now) (m Image) c.args.tree.now.group c.args.tree.now.root c.args.tree.now.levels bad c.in-Whole.front c.gather_leaf.new.front c.gather_leaf.result firm (subst (IsBegun g.K.RecKind.form (layout c.args.geo.now) (m Image) c.args.tree.now.group c.args.tree.now.root c.args.tree.now.levels bad) c.in-Whole.is begun) (each_told _ _ m c.gather_leaf.ensures.exact e)
