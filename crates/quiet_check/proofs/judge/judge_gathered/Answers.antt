use Rattle.std.proofs.Common.{◌∙◌, ◌/◌, [], subst, sym, Some, None}
use Rattle.std.proofs.lemmas.Result.{IfOk-weaker}
use Rattle.fs_state.specs.Faults.{faults}
use Rattle.fs_model.specs.declared.unit.Unit.TheVariants as units
use Rattle.fs_state.specs.Kinds.{Image}
use Rattle.fs_state.specs.State.{recs_of}
use Rattle.geom.specs.Layout.{group_len_of}
use Rattle.geom.specs.Places.{layout}
use Rattle.group_trees.specs.Trees.{reading_of}
use Rattle.index_derive.specs.Units.{is_listed_by}
use Rattle.inode_pass.specs.Units.{opened_state}
use Rattle.quiet_check.specs.Judged.{Decided, Gathered, later_evidence, overlap_of}
use Rattle.quiet_check.specs.declared.judge.Judged.{Judged}
use Rattle.quiet_check.proofs.JudgeLemmas.{bad_decides, bad_judged, left_decides}
use Rattle.quiet_check.proofs.KeptLemmas.{given_up_kept, nothing_inside}
use Rattle.run_sets.proofs.OnlyRunsLemmas.{runs_if_only}
use Rattle.quiet_check.proofs.judge.judge_gathered.Goals as goal

pub first_bad_chunk-requires-clause-by_inodes : goal.first_bad_chunk-requires-clause-by_inodes
first_bad_chunk-requires-clause-by_inodes c =
    (runs_if_only (is_listed_by (recs_of (reading_of c.args.trees.now.ino)) []) (group_len_of (layout c.args.geo.now) c.args.g / 8) c.as_slice-by_inodes.result.now (c.as_slice-by_inodes.ensures.value ∙ c.requires.listed.by_inodes)).maximal

pub first_bad_chunk-requires-clause-by_owners : goal.first_bad_chunk-requires-clause-by_owners
first_bad_chunk-requires-clause-by_owners c =
    (runs_if_only (is_listed_by [] (recs_of (reading_of c.args.trees.now.rmap))) (group_len_of (layout c.args.geo.now) c.args.g / 8) c.as_slice-by_owners.result.now (c.as_slice-by_owners.ensures.value ∙ c.requires.listed.by_owners)).maximal

pub returns-in-Some-clause-exact : goal.returns-in-Some-clause-exact
returns-in-Some-clause-exact c =
    let at = layout c.args.geo.now in
    λ image so. subst (λ (j : Judged). Decided (later_evidence (opened_state at image) c.args.g) (faults (opened_state at image) c.args.g units.Inode) j) (sym c.given_up.ensures.judged)
    (bad_decides at c.args.g c.args.heads.now c.args.trees.now c.args.seen.now c.in-Some.found
    (bad_judged at c.args.g c.args.heads.now c.args.trees.now c.args.seen.now c.args.listed.now c.as_slice-by_inodes.result.now c.as_slice-by_owners.result.now (Some c.in-Some.found) c.requires.group c.requires.units c.requires.listed c.as_slice-by_inodes.ensures.value c.as_slice-by_owners.ensures.value (sym c.in-Some.is ∙ c.first_bad_chunk.ensures)) image so)

pub returns-in-None-clause-exact : goal.returns-in-None-clause-exact
returns-in-None-clause-exact c =
    let at = layout c.args.geo.now in
    IfOk-weaker c.judge_chunks.result (λ found. (image : Image) → Gathered at image c.args.g c.args.heads.now c.args.trees.now c.args.seen.now → Decided (overlap_of (opened_state at image) c.args.g) (faults (opened_state at image) c.args.g units.Inode) found.judged) _
    (λ found left. left_decides at c.args.g c.args.heads.now c.args.trees.now c.args.seen.now found.judged
    (bad_judged at c.args.g c.args.heads.now c.args.trees.now c.args.seen.now c.args.listed.now c.as_slice-by_inodes.result.now c.as_slice-by_owners.result.now None c.requires.group c.requires.units c.requires.listed c.as_slice-by_inodes.ensures.value c.as_slice-by_owners.ensures.value (sym c.in-None.is ∙ c.first_bad_chunk.ensures))
    left)
    c.judge_chunks.ensures.exact

pub returns-in-Some-clause-kept : goal.returns-in-Some-clause-kept
returns-in-Some-clause-kept c = λ image so noted. given_up_kept (layout c.args.geo.now) image c.args.g c.given_up.result c.in-Some.found c.given_up.ensures.judged c.given_up.ensures.chunks c.given_up.ensures.notes

pub returns-in-Some-clause-inside : goal.returns-in-Some-clause-inside
returns-in-Some-clause-inside c = nothing_inside (layout c.args.geo.now) c.args.g c.given_up.result.inodes c.given_up.ensures.chunks c.given_up.ensures.notes
