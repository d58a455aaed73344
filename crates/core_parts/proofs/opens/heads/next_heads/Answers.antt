use Rattle.std.proofs.Common.{List, subst, sym, arith}
use Rattle.blk_device.specs.declared.device.Region.TheVariants.{Image}
use Rattle.geom.specs.Places.{layout}
use Rattle.core_parts.specs.Opens.Heads.{Each, IsHeadsOf}
use Rattle.core_edit.specs.Stands.{AreOf}
use Rattle.core_edit.specs.declared.heads.EditHeads.{EditHeads}
use Rattle.core_parts.proofs.opens.Each.{each_behind}
use Rattle.core_parts.proofs.opens.heads.next_heads.Goals as goal

pub returns-clause-told : goal.returns-clause-told
returns-clause-told g c = λ m e are.
    subst (λ (hs : List EditHeads). Each (IsHeadsOf (layout c.args.geo.now) (m Image)) 0 hs) (sym c.in_ok-put_heads.ensures.put)
    (each_behind (IsHeadsOf (layout c.args.geo.now) (m Image)) c.args.g 0 c.args.all.now.items c.in_ok-heads.heads (omega (arith, c.requires.before)) are (c.in_ok-heads.ensures.exact m e))

pub returns-clause-of_group : goal.returns-clause-of_group
returns-clause-of_group g c = λ are.
    subst (λ (hs : List EditHeads). Each (AreOf (layout c.args.geo.now)) 0 hs) (sym c.in_ok-put_heads.ensures.put)
    (each_behind (AreOf (layout c.args.geo.now)) c.args.g 0 c.args.all.now.items c.in_ok-heads.heads (omega (arith, c.requires.before)) are c.in_ok-heads.ensures.of_group)
