use Rattle.std.proofs.Common.{◌∙◌, ◌<◌, ◌^◌, All, ap, sym, subst}
use Rattle.geom.specs.Places.{layout}
use Rattle.ino_recs.specs.Chunks.{fino_form, ino_form}
use Rattle.index_derive.specs.Inodes.{AreUnits, records_of}
use Rattle.index_derive.specs.declared.inodes.UnitCores.{UnitCores}
use Rattle.sblock.specs.Blocks.{IsRising}
use Rattle.tree_defs.specs.Sites.{bounds_of}
use Rattle.quiet_check.proofs.JudgeLemmas.{core_small, records_judged, recs_rising, rises_if_read}
use Rattle.quiet_check.proofs.judge.judge_records.Goals as goal

pub inode_records-requires : goal.inode_records-requires
inode_records-requires c = subst (All (λ (u : UnitCores). u.unit < 2 ^ 26)) (sym (c.as_slice.ensures.value ∙ c.in_ok-cores.ensures)) (core_small (layout c.args.geo.now) c.args.g c.args.trees.now c.args.seen.now c.args.geo.now.fitting c.requires.units)

pub inode_faults-requires-clause-recs : goal.inode_faults-requires-clause-recs
inode_faults-requires-clause-recs c =
    subst (IsRising ino_form) (sym (c.as_slice-2.ensures.value ∙ c.in_ok-recs.ensures.value ∙ ap records_of (c.as_slice.ensures.value ∙ c.in_ok-cores.ensures))) (recs_rising (layout c.args.geo.now) c.args.g c.args.trees.now c.args.seen.now c.requires.units)

pub inode_faults-requires-clause-ino : goal.inode_faults-requires-clause-ino
inode_faults-requires-clause-ino c = rises_if_read ino_form (bounds_of (layout c.args.geo.now) c.args.g) c.args.trees.now.ino c.requires.trees.ino

pub inode_faults-requires-clause-fino : goal.inode_faults-requires-clause-fino
inode_faults-requires-clause-fino c = rises_if_read fino_form (bounds_of (layout c.args.geo.now) c.args.g) c.args.trees.now.fino c.requires.trees.fino

pub returns-clause-exact : goal.returns-clause-exact
returns-clause-exact c =
    records_judged (layout c.args.geo.now) c.args.g c.args.heads.now c.args.trees.now c.args.seen.now c.as_slice-2.result.now c.in_ok-faults.faults c.args.geo.now.fitting c.requires.group c.requires.units
    (λ a h are. c.as_slice-2.ensures.value ∙ c.in_ok-recs.ensures.exact a h (subst (AreUnits a h) (sym (c.as_slice.ensures.value ∙ c.in_ok-cores.ensures)) are))
    c.in_ok-faults.ensures
