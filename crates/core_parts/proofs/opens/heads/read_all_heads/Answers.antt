use Rattle.std.proofs.Common.{◌≡◌, ◌+◌, IfErr, List, Some, length, ◌∙◌, sym, ap, refl, subst, arith}
use Rattle.std.specs.Global.{Vec}
use Rattle.blk_device.specs.Contents.{Contents}
use Rattle.blk_device.specs.declared.device.Region.TheVariants.{Image}
use Rattle.blk_device.specs.ReadingLaws.{nothing_read, read_on}
use Rattle.geom.specs.Places.{layout}
use Rattle.core_parts.specs.Opens.Heads.{Each, IsFirstRefused, IsHeadsOf}
use Rattle.core_edit.specs.Stands.{AreOf}
use Rattle.core_edit.specs.declared.heads.EditHeads.{EditHeads}
use Rattle.core_parts.proofs.opens.Each.{err_cause, first_refused, pass_none, pass_on, with_err}
use Rattle.core_parts.proofs.opens.heads.read_all_heads.Goals as goal

pub loop-g-init : goal.loop-g-init
loop-g-init g c = record {
  all = ap (λ (x : List EditHeads). length x) c.new-all.ensures.items;
  told = λ m e. subst (λ (x : List EditHeads). Each (IsHeadsOf (layout c.args.geo.now) (m Image)) 0 x) (sym c.new-all.ensures.items) tt;
  of_group = subst (λ (x : List EditHeads). Each (AreOf (layout c.args.geo.now)) 0 x) (sym c.new-all.ensures.items) tt;
  passed = λ m e. pass_none (layout c.args.geo.now) (m Image);
  reading = nothing_read g.D.Device g.met.D.Device.only_now g.met.D.Device.counts_now c.args.dev.now c.args.steps.now;
  calm = refl;
}

pub next_heads-requires-clause-before : goal.next_heads-requires-clause-before
next_heads-requires-clause-before g c = c.loop-g.invariant.all

pub loop-g-preserved : goal.loop-g-preserved
loop-g-preserved g c = record {
  all = c.in_ok-next_heads.ensures.one ∙ ap (λ n. n + 1) c.loop-g.invariant.all;
  told = λ m e. c.in_ok-next_heads.ensures.told m (c.loop-g.invariant.reading.same ∙ e) (c.loop-g.invariant.told m e);
  of_group = c.in_ok-next_heads.ensures.of_group c.loop-g.invariant.of_group;
  passed = λ m e. pass_on (layout c.args.geo.now) (m Image) c.loop-g.g (c.loop-g.invariant.passed m e) (c.in_ok-next_heads.ensures.passed m (c.loop-g.invariant.reading.same ∙ e));
  reading = read_on g.D.Device g.met.D.Device.only_now g.met.D.Device.counts_now c.args.dev.now c.loop-g.dev c.next_heads.new.dev c.args.steps.now c.loop-g.steps c.next_heads.new.steps c.loop-g.invariant.reading c.in_ok-next_heads.ensures.reading;
  calm = c.in_ok-next_heads.ensures.cause ∙ c.loop-g.invariant.calm;
}

pub returns-in_err-next_heads-clause-refused : goal.returns-in_err-next_heads-clause-refused
returns-in_err-next_heads-clause-refused g c =
    with_err {T = Vec EditHeads} (λ r. IfErr r (λ stop. (m : Contents) → g.D.Device.content c.args.dev.now ≡ Some m → IsFirstRefused (layout c.args.geo.now) (m Image) stop)) c.in_err-next_heads.field-0.0 c.from_residual.result c.from_residual.ensures
    (λ m e. first_refused (layout c.args.geo.now) (m Image) c.loop-g.g c.in_err-next_heads.field-0.0 c.loop-g-test.true (c.loop-g.invariant.passed m e) (c.in_err-next_heads.ensures.refused m (c.loop-g.invariant.reading.same ∙ e)))

pub returns-in_err-next_heads-clause-reading : goal.returns-in_err-next_heads-clause-reading
returns-in_err-next_heads-clause-reading g c =
    read_on g.D.Device g.met.D.Device.only_now g.met.D.Device.counts_now c.args.dev.now c.loop-g.dev c.next_heads.new.dev c.args.steps.now c.loop-g.steps c.next_heads.new.steps c.loop-g.invariant.reading c.in_err-next_heads.ensures.reading

pub returns-in_err-next_heads-clause-cause : goal.returns-in_err-next_heads-clause-cause
returns-in_err-next_heads-clause-cause g c =
    err_cause {T = Vec EditHeads} (g.D.Device.faults c.args.dev.now) (g.D.Device.faults c.loop-g.dev) (g.D.Device.faults c.next_heads.new.dev) c.in_err-next_heads.field-0.0 c.from_residual.result c.from_residual.ensures c.loop-g.invariant.calm c.in_err-next_heads.ensures.cause

pub returns-clause-passed : goal.returns-clause-passed
returns-clause-passed g c = λ m e i below. c.loop-g.invariant.passed m e i (omega (arith, below, c.loop-g-test.false))
