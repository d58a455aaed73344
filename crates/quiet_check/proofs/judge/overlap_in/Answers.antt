use Rattle.std.proofs.Common.{ℕ, ◌<◌, ◌^◌, All, sym, subst}
use Rattle.fs_state.specs.Kinds.{Image}
use Rattle.geom.specs.Layout.{group_len_of}
use Rattle.geom.specs.Places.{layout}
use Rattle.tree_walk.specs.Trails.{LieInside}
use Rattle.group_trees.specs.Group.{AreInside, IsOverlapOf}
use Rattle.quiet_check.proofs.JudgeLemmas.{chunk_inside, chunk_small, kept_answers, overlap_judged}
use Rattle.quiet_check.proofs.judge.overlap_in.Goals as goal

pub metadata_overlap-requires-clause-list : goal.metadata_overlap-requires-clause-list
metadata_overlap-requires-clause-list c = subst (LieInside (group_len_of (layout c.args.geo.now) c.args.g)) (sym c.as_slice-list.ensures.value) c.requires.list

pub metadata_overlap-requires-clause-chunks : goal.metadata_overlap-requires-clause-chunks
metadata_overlap-requires-clause-chunks c = subst (AreInside (group_len_of (layout c.args.geo.now) c.args.g)) (sym c.requires.chunks) (chunk_inside (layout c.args.geo.now) c.args.g c.args.trees.now c.args.seen.now c.requires.units)

pub metadata_overlap-requires-clause-small : goal.metadata_overlap-requires-clause-small
metadata_overlap-requires-clause-small c = subst (All (λ (u : ℕ). u < 2 ^ 26)) (sym c.requires.chunks) (chunk_small (layout c.args.geo.now) c.args.g c.args.trees.now c.args.seen.now c.args.geo.now.fitting c.requires.units)

pub returns-clause-exact : goal.returns-clause-exact
returns-clause-exact c =
    kept_answers (λ found. (image : Image) → IsOverlapOf (layout c.args.geo.now) image c.args.g c.as_slice-list.result.now c.args.trees.now c.args.chunks.now found) _ _ c.metadata_overlap.result c.map_err.result c.map_err.ensures.cases
    (λ found is. overlap_judged (layout c.args.geo.now) c.args.g c.args.heads.now c.args.trees.now c.args.seen.now c.as_slice-list.result.now c.args.chunks.now found c.requires.group c.requires.units c.as_slice-list.ensures.value c.requires.chunks is)
    c.metadata_overlap.ensures
