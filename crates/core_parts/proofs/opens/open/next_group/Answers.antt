use Rattle.std.proofs.Common.{List, sym, subst, arith}
use Rattle.blk_device.specs.declared.device.Region.TheVariants.{Image}
use Rattle.geom.specs.Places.{layout}
use Rattle.core_parts.specs.Opens.Groups.{IsBegun, IsOpened}
use Rattle.core_parts.specs.Opens.Heads.{Each, IsHeadsOf}
use Rattle.core_edit.specs.Stands.{AreOf}
use Rattle.core_edit.specs.declared.heads.EditHeads.{EditHeads}
use Rattle.core_parts.specs.declared.groups.GroupKept.{GroupKept}
use Rattle.core_parts.proofs.opens.Each.{each_among, each_behind}
use Rattle.core_parts.proofs.opens.open.next_group.Goals as goal

pub read_group-requires-clause-heads : goal.read_group-requires-clause-heads
read_group-requires-clause-heads g c = λ m e.
    subst (λ (h : EditHeads). IsHeadsOf (layout c.args.geo.now) (m Image) c.args.g h) (sym c.index-all-g.is)
    (each_among (IsHeadsOf (layout c.args.geo.now) (m Image)) c.args.g c.index-all-g.result c.args.all.now (omega (arith, c.requires.all, c.requires.group)) (c.requires.told m e))

pub returns-clause-begun : goal.returns-clause-begun
returns-clause-begun g c = λ are.
    let at = layout c.args.geo.now in
    let here = subst (λ (h : EditHeads). AreOf at c.args.g h) (sym c.index-all-g.is) (each_among (AreOf at) c.args.g c.index-all-g.result c.args.all.now (omega (arith, c.requires.all, c.requires.group)) c.requires.of_group) in
    subst (λ (ks : List GroupKept). Each (IsBegun at) 0 ks) (sym c.in_ok-put_group.ensures.put)
    (each_behind (IsBegun at) c.args.g 0 c.args.groups.now.items c.in_ok-kept.kept (omega (arith, c.requires.before)) are (record {
      of_group = subst (λ (h : EditHeads). AreOf at c.args.g h) (sym c.in_ok-kept.ensures.heads) here;
      fresh = c.in_ok-kept.ensures.fresh;
    }))

pub returns-clause-told : goal.returns-clause-told
returns-clause-told g c = λ m e are.
    let at = layout c.args.geo.now in
    let here = subst (λ (h : EditHeads). IsHeadsOf at (m Image) c.args.g h) (sym c.index-all-g.is) (each_among (IsHeadsOf at (m Image)) c.args.g c.index-all-g.result c.args.all.now (omega (arith, c.requires.all, c.requires.group)) (c.requires.told m e)) in
    subst (λ (ks : List GroupKept). Each (IsOpened at (m Image)) 0 ks) (sym c.in_ok-put_group.ensures.put)
    (each_behind (IsOpened at (m Image)) c.args.g 0 c.args.groups.now.items c.in_ok-kept.kept (omega (arith, c.requires.before)) are (record {
      heads = subst (λ (h : EditHeads). IsHeadsOf at (m Image) c.args.g h) (sym c.in_ok-kept.ensures.heads) here;
      bad = c.in_ok-kept.ensures.bad m e;
    }))
