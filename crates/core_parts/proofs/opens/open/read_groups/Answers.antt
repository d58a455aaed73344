use Rattle.std.proofs.Common.{◌≡◌, ◌+◌, List, length, ◌∙◌, sym, ap, refl, subst, arith}
use Rattle.std.specs.Global.{Vec}
use Rattle.blk_device.specs.declared.device.Region.TheVariants.{Image}
use Rattle.blk_device.specs.ReadingLaws.{nothing_read, read_on}
use Rattle.geom.specs.Places.{layout}
use Rattle.core_parts.specs.Opens.Groups.{IsBegun, IsOpened}
use Rattle.core_parts.specs.Opens.Heads.{Each}
use Rattle.core_parts.specs.declared.groups.GroupKept.{GroupKept}
use Rattle.core_parts.proofs.opens.Each.{err_cause}
use Rattle.core_parts.proofs.opens.open.read_groups.Goals as goal

pub loop-g-init : goal.loop-g-init
loop-g-init g c = record {
  all = ap (λ (x : List GroupKept). length x) c.new-groups.ensures.items;
  begun = subst (λ (x : List GroupKept). Each (IsBegun (layout c.args.geo.now)) 0 x) (sym c.new-groups.ensures.items) tt;
  told = λ m e. subst (λ (x : List GroupKept). Each (IsOpened (layout c.args.geo.now) (m Image)) 0 x) (sym c.new-groups.ensures.items) tt;
  reading = nothing_read g.D.Device g.met.D.Device.only_now g.met.D.Device.counts_now c.args.dev.now c.args.steps.now;
  calm = refl;
  agrees = c.requires.agreed;
}

pub next_group-requires-clause-before : goal.next_group-requires-clause-before
next_group-requires-clause-before g c = c.loop-g.invariant.all

pub next_group-requires-clause-told : goal.next_group-requires-clause-told
next_group-requires-clause-told g c = λ m e. c.requires.told m (sym c.loop-g.invariant.reading.same ∙ e)

pub loop-g-preserved : goal.loop-g-preserved
loop-g-preserved g c = record {
  all = c.in_ok-next_group.ensures.one ∙ ap (λ n. n + 1) c.loop-g.invariant.all;
  begun = c.in_ok-next_group.ensures.begun c.loop-g.invariant.begun;
  told = λ m e. c.in_ok-next_group.ensures.told m (c.loop-g.invariant.reading.same ∙ e) (c.loop-g.invariant.told m e);
  reading = read_on g.D.Device g.met.D.Device.only_now g.met.D.Device.counts_now c.args.dev.now c.loop-g.dev c.next_group.new.dev c.args.steps.now c.loop-g.steps c.next_group.new.steps c.loop-g.invariant.reading c.in_ok-next_group.ensures.reading;
  calm = c.in_ok-next_group.ensures.cause ∙ c.loop-g.invariant.calm;
  agrees = c.in_ok-next_group.ensures.agrees;
}

pub returns-in_err-next_group-clause-reading : goal.returns-in_err-next_group-clause-reading
returns-in_err-next_group-clause-reading g c =
    read_on g.D.Device g.met.D.Device.only_now g.met.D.Device.counts_now c.args.dev.now c.loop-g.dev c.next_group.new.dev c.args.steps.now c.loop-g.steps c.next_group.new.steps c.loop-g.invariant.reading c.in_err-next_group.ensures.reading

pub returns-in_err-next_group-clause-cause : goal.returns-in_err-next_group-clause-cause
returns-in_err-next_group-clause-cause g c =
    err_cause {T = Vec GroupKept} (g.D.Device.faults c.args.dev.now) (g.D.Device.faults c.loop-g.dev) (g.D.Device.faults c.next_group.new.dev) c.in_err-next_group.field-0.0 c.from_residual.result c.from_residual.ensures c.loop-g.invariant.calm c.in_err-next_group.ensures.cause
