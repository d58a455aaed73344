use Rattle.std.proofs.Common.{◌≡◌, ◌∙◌, Some, arith}
use Rattle.std.proofs.lemmas.Result.{IfOk-weaker}
use Rattle.blk_device.specs.Contents.{Contents}
use Rattle.blk_device.specs.ReadingLaws.{read_on}
use Rattle.blk_device.specs.declared.device.Region.TheVariants.{Image}
use Rattle.fs_model.specs.declared.unit.Unit.TheVariants as units
use Rattle.fs_state.specs.Kinds.{heads_of}
use Rattle.geom.specs.Places.{layout}
use Rattle.inode_pass.specs.Units.{opened_state}
use Rattle.group_trees.specs.Group.{AreTrees}
use Rattle.group_trees.specs.Heads.{heads_seen}
use Rattle.quiet_check.specs.Counted.{inodes_most}
use Rattle.quiet_check.specs.Judged.{IsJudged}
use Rattle.quiet_check.specs.Kept.{IsKeptAs, IsKeptOf}
use Rattle.quiet_check.specs.declared.judge.InodesJudged.{InodesJudged}
use Rattle.quiet_check.proofs.JudgeLemmas.{inodes_few}
use Rattle.quiet_check.proofs.KeptLemmas.{both_ok, kept_decided}
use Rattle.quiet_check.proofs.judge.judge_inodes.Goals as goal

pub returns-clause-exact : goal.returns-clause-exact
returns-clause-exact g c =
    let at = layout c.args.geo.now in
    IfOk-weaker c.judge_trees.result (λ found. (m : Contents) → g.D.Device.content c.read_trees.new.dev ≡ Some m → heads_seen c.args.heads.now ≡ heads_of at (m Image) c.args.g → AreTrees at (m Image) c.args.g c.in_ok-trees.trees → IsJudged (opened_state at (m Image)) c.args.g units.Inode found.judged) _
    (λ found is m e. is m (c.in_ok-trees.ensures.reading.same ∙ e) (c.requires.heads m e) (c.in_ok-trees.ensures.exact m e))
    c.judge_trees.ensures.exact

pub returns-clause-reading : goal.returns-clause-reading
returns-clause-reading g c =
    read_on g.D.Device g.met.D.Device.only_now g.met.D.Device.counts_now c.args.dev.now c.read_trees.new.dev c.judge_trees.new.dev c.args.steps.now c.read_trees.new.steps c.judge_trees.new.steps c.in_ok-trees.ensures.reading c.judge_trees.ensures.reading

pub returns-in_err-trees-clause-counted : goal.returns-in_err-trees-clause-counted
unfolding inodes_most
returns-in_err-trees-clause-counted g c = λ m e. let read = c.in_err-trees.ensures.counted m e in omega (arith, read)

pub returns-clause-counted : goal.returns-clause-counted
returns-clause-counted g c = λ m e.
    inodes_few (layout c.args.geo.now) (m Image) c.args.g c.in_ok-trees.trees c.args.steps.now.reads c.read_trees.new.steps.reads c.judge_trees.new.steps.reads (c.in_ok-trees.ensures.exact m e) (c.in_ok-trees.ensures.counted m e) c.judge_trees.ensures.few

pub returns-clause-kept : goal.returns-clause-kept
returns-clause-kept g c =
    let at = layout c.args.geo.now in
    both_ok
    (λ (found : InodesJudged). (m : Contents) → g.D.Device.content c.read_trees.new.dev ≡ Some m → heads_seen c.args.heads.now ≡ heads_of at (m Image) c.args.g → AreTrees at (m Image) c.args.g c.in_ok-trees.trees → IsJudged (opened_state at (m Image)) c.args.g units.Inode found.judged)
    (λ (found : InodesJudged). (m : Contents) → g.D.Device.content c.read_trees.new.dev ≡ Some m → heads_seen c.args.heads.now ≡ heads_of at (m Image) c.args.g → AreTrees at (m Image) c.args.g c.in_ok-trees.trees → IsKeptAs at (m Image) c.args.g found)
    (λ (found : InodesJudged). (m : Contents) → g.D.Device.content c.args.dev.now ≡ Some m → IsKeptOf at (m Image) c.args.g found.inodes)
    c.judge_trees.result
    (λ found is kept m e.
    let told = c.in_ok-trees.ensures.reading.same ∙ e in
    let named = c.requires.heads m e in
    let are = c.in_ok-trees.ensures.exact m e in
    kept_decided at (m Image) c.args.g found (is m told named are) (kept m told named are))
    c.judge_trees.ensures.exact
    c.judge_trees.ensures.kept
