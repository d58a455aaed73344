use Rattle.std.proofs.Common.{◌≡◌, ◌∙◌, Some, subst, sym}
use Rattle.std.proofs.lemmas.Result.{IfOk-weaker}
use Rattle.blk_device.specs.Contents.{Contents}
use Rattle.blk_device.specs.declared.device.Region.TheVariants.{Image}
use Rattle.fs_state.specs.Faults.{faults}
use Rattle.fs_model.specs.declared.unit.Unit.TheVariants as units
use Rattle.fs_state.specs.Kinds.{heads_of}
use Rattle.geom.specs.Layout.{group_len_of}
use Rattle.geom.specs.Places.{layout}
use Rattle.inode_pass.specs.Units.{opened_state}
use Rattle.group_trees.specs.Group.{AreTrees}
use Rattle.group_trees.specs.Heads.{heads_seen}
use Rattle.quiet_check.specs.Judged.{Decided, IsJudged, later_evidence}
use Rattle.quiet_check.specs.declared.judge.Judged.{Judged}
use Rattle.quiet_check.specs.Units.{evidence_in}
use Rattle.quiet_check.proofs.JudgeLemmas.{cores_decide, cores_read, trees_decide}
use Rattle.quiet_check.proofs.KeptLemmas.{given_up_kept, nothing_inside}
use Rattle.quiet_check.proofs.judge.judge_trees.Goals as goal

pub returns-in-Some-clause-exact : goal.returns-in-Some-clause-exact
returns-in-Some-clause-exact g c = λ m e named are.
    subst (λ (j : Judged). IsJudged (opened_state (layout c.args.geo.now) (m Image)) c.args.g units.Inode j) (sym c.given_up.ensures.judged)
    (trees_decide (layout c.args.geo.now) (m Image) c.args.g c.args.trees.now c.in-Some.found are (sym c.in-Some.is ∙ c.tree_evidence.ensures))

pub returns-in-None-clause-exact : goal.returns-in-None-clause-exact
returns-in-None-clause-exact g c =
    let at = layout c.args.geo.now in
    IfOk-weaker c.judge_cores.result (λ found. (m : Contents) → g.D.Device.content c.args.dev.now ≡ Some m → heads_seen c.args.heads.now ≡ heads_of at (m Image) c.args.g → AreTrees at (m Image) c.args.g c.args.trees.now → Decided (later_evidence (opened_state at (m Image)) c.args.g) (faults (opened_state at (m Image)) c.args.g units.Inode) found.judged) _
    (λ found decided m e named are. cores_decide at (m Image) c.args.g c.args.trees.now found.judged are (sym c.in-None.is ∙ c.tree_evidence.ensures) (decided m e named are))
    c.judge_cores.ensures.exact

pub returns-in-Some-clause-kept : goal.returns-in-Some-clause-kept
returns-in-Some-clause-kept g c = λ m e named are. given_up_kept (layout c.args.geo.now) (m Image) c.args.g c.given_up.result c.in-Some.found c.given_up.ensures.judged c.given_up.ensures.chunks c.given_up.ensures.notes

pub returns-in-Some-clause-inside : goal.returns-in-Some-clause-inside
returns-in-Some-clause-inside g c = nothing_inside (layout c.args.geo.now) c.args.g c.given_up.result.inodes c.given_up.ensures.chunks c.given_up.ensures.notes

pub returns-in-None-clause-few : goal.returns-in-None-clause-few
returns-in-None-clause-few g c = cores_read c.args.steps.now.reads c.judge_cores.new.steps.reads (group_len_of (layout c.args.geo.now) c.args.g) (evidence_in c.args.trees.now) (sym c.in-None.is ∙ c.tree_evidence.ensures) c.judge_cores.ensures.few
