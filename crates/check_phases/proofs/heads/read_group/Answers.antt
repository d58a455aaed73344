use Rattle.std.proofs.Common.{rules}
use Rattle.std.proofs.lemmas.Result.{IfErr-weaker, IfOk-weaker}
use Rattle.blk_device.specs.declared.device.Region.TheVariants.{Image}
use Rattle.geom.specs.Places.{layout}
use Rattle.group_trees.specs.Heads.{IsRefusedIn, PassIn}
use Rattle.check_phases.proofs.HeadLemmas.{heads_met}
use Rattle.check_phases.proofs.heads.read_group.Goals as goal

pub returns-clause-exact : goal.returns-clause-exact
returns-clause-exact g c = λ m e.
    heads_met (layout c.args.geo.now) (m Image) c.args.g _ (λ stop halt said. search rules) c.read_heads.result c.map_err.result c.map_err.ensures.cases
    (IfOk-weaker c.read_heads.result _ (λ heads. PassIn (layout c.args.geo.now) (m Image) c.args.g) (λ heads passed. passed m e) c.read_heads.ensures.passed)
    (IfErr-weaker c.read_heads.result _ (IsRefusedIn (layout c.args.geo.now) (m Image) c.args.g) (λ stop refused. refused m e) c.read_heads.ensures.refused)
