use Rattle.std.proofs.Common.{◌∙◌, ◌<◌, ◌^◌, ℕ, All, List, ap, arith, subst, sym}
use Rattle.derive_defs.specs.Mappings.{EndWithin, StartsRise}
use Rattle.geom.specs.Layout.{group_len_of}
use Rattle.geom.specs.Places.{layout}
use Rattle.group_trees.proofs.ReadLemmas.{group_short}
use Rattle.ino_recs.specs.Chunks.{ino_form}
use Rattle.index_derive.specs.Inodes.{records_of}
use Rattle.index_derive.specs.declared.inodes.UnitCores.{UnitCores}
use Rattle.rmap_recs.specs.declared.records.RmapRec.{RmapRec}
use Rattle.run_sets.specs.Runs.{most}
use Rattle.sblock.specs.Blocks.{IsRising}
use Rattle.tree_defs.specs.Sites.{bounds_of}
use Rattle.quiet_check.proofs.JudgeLemmas.{chunk_small, core_small, maps_end, maps_rise, recs_rising}
use Rattle.quiet_check.specs.Chunks.{chunk_numbers}
use Rattle.quiet_check.specs.Judged.{cores_in}
use Rattle.core_units.proofs.MappedLemmas.{maps_within}
use Rattle.core_units.proofs.concluding.conclude_claims.Goals as goal

pub all_claims-requires : goal.all_claims-requires
all_claims-requires c =
    let old = c.args.gathered.now in
    subst (All (λ (u : ℕ). u < 2 ^ 26)) (sym (c.as_slice.ensures.value ∙ c.in_ok-chunks.ensures ∙ ap chunk_numbers c.as_slice-seen.ensures.value)) (chunk_small (layout c.args.geo.now) c.args.g old.trees old.seen.items c.args.geo.now.fitting c.requires.units)

pub derived-requires-clause-rising : goal.derived-requires-clause-rising
derived-requires-clause-rising c = subst StartsRise (sym c.recs_of-mapped.ensures) (maps_rise (bounds_of (layout c.args.geo.now) c.args.g) c.args.gathered.now.trees.rmap c.requires.orderly.trees.rmap)

pub derived-requires-clause-within : goal.derived-requires-clause-within
derived-requires-clause-within c = subst (λ (n : ℕ). EndWithin n c.recs_of-mapped.result.now) (sym c.group_len.ensures) (subst (EndWithin (group_len_of (layout c.args.geo.now) c.args.g)) (sym c.recs_of-mapped.ensures) (maps_within (bounds_of (layout c.args.geo.now) c.args.g) c.args.gathered.now.trees.rmap c.requires.orderly.trees.rmap))

pub derived-requires-clause-short : goal.derived-requires-clause-short
derived-requires-clause-short c = let k = group_short (layout c.args.geo.now) c.args.g c.args.geo.now.fitting in omega (arith, k, c.group_len.ensures)

pub derived-requires-clause-ends : goal.derived-requires-clause-ends
derived-requires-clause-ends c = subst (EndWithin most) (sym c.recs_of-mapped.ensures) (maps_end (bounds_of (layout c.args.geo.now) c.args.g) c.args.gathered.now.trees.rmap (let k = group_short (layout c.args.geo.now) c.args.g c.args.geo.now.fitting in omega (arith, k)) c.requires.orderly.trees.rmap)

pub derived-requires-clause-cores : goal.derived-requires-clause-cores
derived-requires-clause-cores c =
    let old = c.args.gathered.now in
    subst (All (λ (u : UnitCores). u.unit < 2 ^ 26)) (sym (c.as_slice-2.ensures.value ∙ c.in_ok-cores.ensures ∙ ap cores_in c.as_slice-seen.ensures.value)) (core_small (layout c.args.geo.now) c.args.g old.trees old.seen.items c.args.geo.now.fitting c.requires.units)

pub derived-requires-clause-recs : goal.derived-requires-clause-recs
derived-requires-clause-recs c =
    let old = c.args.gathered.now in
    subst (λ (cores : List UnitCores). IsRising ino_form (records_of cores)) (sym (c.as_slice-2.ensures.value ∙ c.in_ok-cores.ensures ∙ ap cores_in c.as_slice-seen.ensures.value)) (recs_rising (layout c.args.geo.now) c.args.g old.trees old.seen.items c.requires.units)

pub returns : goal.returns
returns c =
    let old = c.args.gathered.now in
    let small = subst (All (λ (u : ℕ). u < 2 ^ 26)) (sym (c.in_ok-chunks.ensures ∙ ap chunk_numbers c.as_slice-seen.ensures.value)) (chunk_small (layout c.args.geo.now) c.args.g old.trees old.seen.items c.args.geo.now.fitting c.requires.units) in
    (c.in_ok-lists.ensures, c.are_few_all.ensures c.if-not-are_few_all.false, small)
