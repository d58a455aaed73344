use Rattle.std.proofs.Common.{◌≡◌}
use Rattle.std.proofs.lemmas.Result.{IfOk-weaker}
use Rattle.blk_device.specs.declared.device.Region.TheVariants.{Image}
use Rattle.fs_state.specs.Kinds.{Image as ImageOf, heads_of}
use Rattle.geom.specs.Places.{layout}
use Rattle.group_trees.specs.Group.{AreTrees}
use Rattle.group_trees.specs.Heads.{heads_seen}
use Rattle.quiet_check.proofs.JudgeLemmas.{own_cause}
use Rattle.mapping_check.specs.Mapped.{IsMappingJudged}
use Rattle.mapping_check.proofs.judge.judge_mappings.Goals as goal

pub returns-clause-exact : goal.returns-clause-exact
returns-clause-exact g c =
    let at = layout c.args.geo.now in
    IfOk-weaker c.judge_trees.result (λ judged. (image : ImageOf) → heads_seen c.args.heads.now ≡ heads_of at image c.args.g → AreTrees at image c.args.g c.in_ok-trees.trees → IsMappingJudged at image c.args.g c.args.chunks.now c.args.set judged) _
    (λ judged decided m e. decided (m Image) (c.requires.heads m e) (c.in_ok-trees.ensures.exact m e))
    c.judge_trees.ensures.exact

pub returns-clause-cause : goal.returns-clause-cause
returns-clause-cause g c = own_cause (g.D.Device.faults c.args.dev.now) (g.D.Device.faults c.read_trees.new.dev) c.judge_trees.result c.in_ok-trees.ensures.cause c.judge_trees.ensures.own
