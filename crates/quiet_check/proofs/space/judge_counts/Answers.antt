use Rattle.std.proofs.Common.{◌≤◌, List, subst, sym, arith, Ok}
use Rattle.blk_device.specs.declared.device.Region.TheVariants.{Image}
use Rattle.derive_defs.specs.Mappings.{EndWithin}
use Rattle.derive_defs.proofs.ConditionLemmas.{end_within, end_further}
use Rattle.geom.specs.Layout.{group_len_of}
use Rattle.geom.specs.Places.{layout}
use Rattle.group_trees.proofs.ReadLemmas.{group_short}
use Rattle.rmap_recs.specs.declared.records.RmapRec.{RmapRec}
use Rattle.space_check.specs.Groups.{tree_of}
use Rattle.space_check.specs.Reads.{IsReading}
use Rattle.span_recs.specs.Refcounts.{refc_form}
use Rattle.tree_blocks.specs.declared.tree.TreeAt.{TreeAt}
use Rattle.tree_defs.specs.Sites.{bounds_of}
use Rattle.quiet_check.proofs.SpaceLemmas.{shared_judged}
use Rattle.quiet_check.specs.Space.{IsSharedDecided}
use Rattle.quiet_check.proofs.space.judge_counts.Goals as goal

pub judge_shared_tree-requires-clause-within : goal.judge_shared_tree-requires-clause-within
judge_shared_tree-requires-clause-within g c =
    let short = group_short (layout c.args.geo.now) c.args.g c.args.geo.now.fitting in
    let few : group_len_of (layout c.args.geo.now) c.args.g ≤ 4294967295 = omega (arith, short) in
    subst (EndWithin 4294967295) (sym c.as_slice.ensures.value)
    (end_further (group_len_of (layout c.args.geo.now) c.args.g) 4294967295 c.args.mapped.now.recs.items few (end_within (bounds_of (layout c.args.geo.now) c.args.g) c.args.mapped.now.recs.items c.requires.sound.inside))

pub returns-clause-exact : goal.returns-clause-exact
returns-clause-exact g c m e is =
    shared_judged (layout c.args.geo.now) (m Image) c.args.g c.args.agf.now c.args.mapped.now c.args.geo.now.fitting is c.in_ok-refc.refc c.in_ok-judged.judged
    (subst (λ (t : TreeAt). IsReading (tree_of (layout c.args.geo.now) (m Image) t.group refc_form t.root t.levels) (Ok c.in_ok-refc.refc)) c.refc_tree-counts.ensures (c.in_ok-refc.ensures.exact m e))
    (subst (λ (ms : List RmapRec). IsSharedDecided c.args.agf.now ms c.in_ok-refc.refc c.in_ok-judged.judged) c.as_slice.ensures.value c.in_ok-judged.ensures)
