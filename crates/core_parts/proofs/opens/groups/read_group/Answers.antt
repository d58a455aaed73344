use Rattle.std.proofs.Common.{subst, sym, ◌∙◌}
use Rattle.blk_device.specs.declared.device.Region.TheVariants.{Image}
use Rattle.fs_state.specs.Read.{opened}
use Rattle.geom.specs.Places.{layout}
use Rattle.core_units.specs.Trees.{AreKnown}
use Rattle.core_units.specs.declared.trees.BadTrees.{BadTrees}
use Rattle.core_parts.proofs.opens.Known.{are_known}
use Rattle.core_parts.proofs.opens.groups.read_group.Goals as goal

pub trees_of-requires-clause-heads : goal.trees_of-requires-clause-heads
trees_of-requires-clause-heads g c = λ m e. c.in_ok-all.ensures.exact ∙ c.requires.heads m e

pub returns-clause-bad : goal.returns-clause-bad
returns-clause-bad g c = λ m e.
    subst (λ (b : BadTrees). AreKnown (opened (layout c.args.geo.now) (m Image)) c.args.g b) (sym c.kept_of.ensures.bad)
    (are_known (layout c.args.geo.now) (m Image) c.args.g c.in_ok-trees.trees c.bad_trees-bad.result (c.in_ok-trees.ensures.exact m e) c.bad_trees-bad.ensures)
