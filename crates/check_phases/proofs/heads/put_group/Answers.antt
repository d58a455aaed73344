use Rattle.std.proofs.Common.{List, subst, sym, arith}
use Rattle.blk_device.specs.declared.device.Region.TheVariants.{Image}
use Rattle.geom.specs.Places.{layout}
use Rattle.group_trees.specs.declared.heads.GroupHeads.{GroupHeads}
use Rattle.check_phases.specs.Checks.{AreAccepted, AreHeads}
use Rattle.check_phases.proofs.HeadLemmas.{accepted_behind, heads_behind}
use Rattle.check_phases.proofs.heads.put_group.Goals as goal

pub returns-clause-heads : goal.returns-clause-heads
returns-clause-heads g c = λ m e are.
    subst (λ (hs : List GroupHeads). AreHeads (layout c.args.geo.now) (m Image) 0 hs) (sym c.in_ok-push.ensures.items)
    (heads_behind (layout c.args.geo.now) (m Image) c.args.g 0 c.args.all.now.items c.in_ok-heads.heads (omega (arith, c.requires.before)) are (c.in_ok-heads.ensures.heads m e))

pub returns-clause-accepted : goal.returns-clause-accepted
returns-clause-accepted g c = λ are.
    subst (λ (hs : List GroupHeads). AreAccepted (layout c.args.geo.now) 0 hs) (sym c.in_ok-push.ensures.items)
    (accepted_behind (layout c.args.geo.now) c.args.g 0 c.args.all.now.items c.in_ok-heads.heads (omega (arith, c.requires.before)) are c.in_ok-heads.ensures.list)
