use Rattle.std.proofs.Common.{◌∙◌, None, subst, sym}
use Rattle.std.proofs.lemmas.Result.{IfOk-weaker}
use Rattle.fs_state.specs.Faults.{faults}
use Rattle.fs_model.specs.declared.unit.Unit.TheVariants as units
use Rattle.fs_state.specs.Kinds.{Image}
use Rattle.geom.specs.Places.{layout}
use Rattle.inode_pass.specs.Units.{opened_state}
use Rattle.quiet_check.specs.Judged.{Decided, Gathered, overlap_of}
use Rattle.quiet_check.specs.declared.judge.Judged.{Judged}
use Rattle.quiet_check.proofs.JudgeLemmas.{faults_decide, overlap_decides}
use Rattle.quiet_check.proofs.KeptLemmas.{given_up_kept, nothing_inside}
use Rattle.quiet_check.proofs.judge.judge_chunks.Goals as goal

pub overlap_in-requires-clause-chunks : goal.overlap_in-requires-clause-chunks
overlap_in-requires-clause-chunks c = c.as_slice.ensures.value ∙ c.in_ok-chunks.ensures

pub returns-in-Some-clause-exact : goal.returns-in-Some-clause-exact
returns-in-Some-clause-exact c = λ image so.
    subst (λ (j : Judged). Decided (overlap_of (opened_state (layout c.args.geo.now) image) c.args.g) (faults (opened_state (layout c.args.geo.now) image) c.args.g units.Inode) j) (sym c.given_up.ensures.judged)
    (overlap_decides (layout c.args.geo.now) c.args.g c.args.heads.now c.args.trees.now c.args.seen.now c.in_ok-found.found c.in-Some.found c.in-Some.is c.in_ok-found.ensures.exact image so)

pub returns-in-Some-clause-kept : goal.returns-in-Some-clause-kept
returns-in-Some-clause-kept c = λ image so noted. given_up_kept (layout c.args.geo.now) image c.args.g c.given_up.result c.in-Some.found c.given_up.ensures.judged c.given_up.ensures.chunks c.given_up.ensures.notes

pub returns-in-Some-clause-inside : goal.returns-in-Some-clause-inside
returns-in-Some-clause-inside c = nothing_inside (layout c.args.geo.now) c.args.g c.given_up.result.inodes c.given_up.ensures.chunks c.given_up.ensures.notes

pub returns-in-None-clause-exact : goal.returns-in-None-clause-exact
returns-in-None-clause-exact c =
    let at = layout c.args.geo.now in
    IfOk-weaker c.judge_kept.result (λ found. (image : Image) → Gathered at image c.args.g c.args.heads.now c.args.trees.now c.args.seen.now → Decided None (faults (opened_state at image) c.args.g units.Inode) found.judged) _
    (λ found left. faults_decide at c.args.g c.args.heads.now c.args.trees.now c.args.seen.now c.in_ok-found.found found.judged c.in-None.is c.in_ok-found.ensures.exact left)
    c.judge_kept.ensures.exact
