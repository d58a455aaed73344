use Rattle.std.proofs.Common.{arith, subst, sym}
use Rattle.geom.specs.Layout.{group_len_of}
use Rattle.group_trees.specs.declared.heads.GroupHeads.{GroupHeads}
use Rattle.tree_walk.specs.Trails.{LieInside}
use Rattle.check_phases.specs.Checks.{IsHeadsOf}
use Rattle.geom.specs.Places.{layout}
use Rattle.blk_device.specs.declared.device.Region.TheVariants.{Image}
use Rattle.check_phases.proofs.PartLemmas.{accepted_among, heads_among}
use Rattle.check_phases.proofs.part.check_inodes_of.Goals as goal

pub check_inodes-requires-clause-list : goal.check_inodes-requires-clause-list
check_inodes-requires-clause-list g c = subst (λ (h : GroupHeads). LieInside (group_len_of (layout c.args.geo.now) c.args.g) h.list.items) (sym c.index-heads-g.is) (accepted_among (layout c.args.geo.now) c.args.g c.index-heads-g.result c.args.heads.now (omega (arith, c.requires.all, c.requires.group)) c.requires.accepted)

pub check_inodes-requires-clause-heads : goal.check_inodes-requires-clause-heads
check_inodes-requires-clause-heads g c = λ m e. subst (λ (h : GroupHeads). IsHeadsOf (layout c.args.geo.now) (m Image) c.args.g h) (sym c.index-heads-g.is) (heads_among (layout c.args.geo.now) (m Image) c.args.g c.index-heads-g.result c.args.heads.now (omega (arith, c.requires.all, c.requires.group)) (c.requires.heads m e))
