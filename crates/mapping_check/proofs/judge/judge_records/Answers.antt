use Rattle.std.proofs.Common.{IfOk, List, subst, sym}
use Rattle.geom.specs.Places.{layout}
use Rattle.group_trees.proofs.HeadLemmas.{answered}
use Rattle.inode_pass.specs.declared.stop.PassStop.{PassStop}
use Rattle.quiet_check.proofs.JudgeLemmas.{rises_if_read}
use Rattle.rmap_recs.specs.Rmap.{rmap_form}
use Rattle.rmap_recs.specs.declared.records.RmapRec.{RmapRec}
use Rattle.sblock.specs.Blocks.{IsRising}
use Rattle.tree_defs.specs.Sites.{bounds_of}
use Rattle.unit_plan.specs.Joined.{AreRunsOf, ClaimOnce}
use Rattle.unit_plan.specs.Sets.{pieces_of}
use Rattle.mapping_check.proofs.MapLemmas.{records_decide}
use Rattle.mapping_check.proofs.judge.judge_records.Goals as goal

pub mapping_faults-requires-clause-recs : goal.mapping_faults-requires-clause-recs
mapping_faults-requires-clause-recs c =
    let rising = answered PassStop (λ r. IfOk r (λ recs. IsRising rmap_form recs.items)) c.into_mappings.result c.in_ok-recs.recs c.in_ok-recs.ensures.cases c.into_mappings.ensures.rising in
    subst (IsRising rmap_form) (sym c.as_slice.ensures.value) rising

pub mapping_faults-requires-clause-rmap : goal.mapping_faults-requires-clause-rmap
mapping_faults-requires-clause-rmap c = rises_if_read rmap_form (bounds_of (layout c.args.geo.now) c.args.g) c.args.trees.now.rmap c.requires.trees.rmap

pub returns-clause-exact : goal.returns-clause-exact
returns-clause-exact c image ps apart maps =
    let exact = answered PassStop (λ r. ClaimOnce (pieces_of c.args.set) → IfOk r (λ recs. AreRunsOf (pieces_of c.args.set) recs.items)) c.into_mappings.result c.in_ok-recs.recs c.in_ok-recs.ensures.cases c.into_mappings.ensures.exact in
    records_decide (layout c.args.geo.now) image c.args.g c.args.geo.now.fitting c.mappings_of_group.ensures c.good_forks.ensures c.args.agf.now c.args.trees.now ps (pieces_of c.args.set) c.as_slice.result.now c.in_ok-faults.faults
    (λ once. subst (λ (rs : List RmapRec). AreRunsOf (pieces_of c.args.set) rs) (sym c.as_slice.ensures.value) (exact once))
    c.in_ok-faults.ensures apart maps
