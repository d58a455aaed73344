use Rattle.std.proofs.Common.{◌≡◌, ◌-◌, ◌+◌, List, length, ◌∙◌, sym, ap, refl, subst, arith}
use Rattle.std.specs.Global.{Vec}
use Rattle.blk_device.specs.declared.device.Region.TheVariants.{Image}
use Rattle.blk_device.specs.ReadingLaws.{nothing_read, read_on}
use Rattle.geom.specs.Places.{layout}
use Rattle.group_trees.specs.declared.heads.GroupHeads.{GroupHeads}
use Rattle.space_check.specs.Checked.{bad_head_from, LooksAtHeads}
use Rattle.space_check.proofs.EventLemmas.{err_cause, with_err}
use Rattle.space_check.proofs.HeadLemmas.{heads_stop, next_group, none_left}
use Rattle.check_phases.specs.Checks.{AreAccepted, AreHeads}
use Rattle.check_phases.proofs.heads.read_all_heads.Goals as goal

pub loop-g-init : goal.loop-g-init
loop-g-init g c = record {
  left = λ m e. let all : c.args.geo.now.agcount - 0 ≡ c.args.geo.now.agcount = omega arith in ap (bad_head_from (layout c.args.geo.now) (m Image) 0) all;
  heads = λ m e. subst (λ (x : List GroupHeads). AreHeads (layout c.args.geo.now) (m Image) 0 x) (sym c.new-all.ensures.items) tt;
  accepted = subst (λ (x : List GroupHeads). AreAccepted (layout c.args.geo.now) 0 x) (sym c.new-all.ensures.items) tt;
  all = ap (λ (x : List GroupHeads). length x) c.new-all.ensures.items;
  counted = omega arith;
  reading = nothing_read g.D.Device g.met.D.Device.only_now g.met.D.Device.counts_now c.args.dev.now c.args.steps.now;
  calm = refl;
}

pub put_group-requires-clause-before : goal.put_group-requires-clause-before
put_group-requires-clause-before g c = c.loop-g.invariant.all

pub loop-g-preserved : goal.loop-g-preserved
loop-g-preserved g c = record {
  left = λ m e. next_group (layout c.args.geo.now) (m Image) c.loop-g.g c.args.geo.now.agcount (bad_head_from (layout c.args.geo.now) (m Image) 0 c.args.geo.now.agcount) c.loop-g-test.true (c.loop-g.invariant.left m e) (c.in_ok-put_group.ensures.exact m (c.loop-g.invariant.reading.same ∙ e));
  heads = λ m e. c.in_ok-put_group.ensures.heads m (c.loop-g.invariant.reading.same ∙ e) (c.loop-g.invariant.heads m e);
  accepted = c.in_ok-put_group.ensures.accepted c.loop-g.invariant.accepted;
  all = c.in_ok-put_group.ensures.one ∙ ap (λ n. n + 1) c.loop-g.invariant.all;
  counted = omega (arith, c.in_ok-put_group.ensures.counted, c.loop-g.invariant.counted);
  reading = read_on g.D.Device g.met.D.Device.only_now g.met.D.Device.counts_now c.args.dev.now c.loop-g.dev c.put_group.new.dev c.args.steps.now c.loop-g.steps c.put_group.new.steps c.loop-g.invariant.reading c.in_ok-put_group.ensures.reading;
  calm = c.in_ok-put_group.ensures.cause ∙ c.loop-g.invariant.calm;
}

pub returns-in_err-put_group-clause-exact : goal.returns-in_err-put_group-clause-exact
returns-in_err-put_group-clause-exact g c = λ m e.
    with_err {T = Vec GroupHeads} (λ r. LooksAtHeads (layout c.args.geo.now) (m Image) c.args.steps.now.reads c.put_group.new.steps.reads r) c.in_err-put_group.field-0.0 c.from_residual.result c.from_residual.ensures
    (heads_stop (layout c.args.geo.now) (m Image) (Unit {0}) c.loop-g.g c.args.steps.now.reads c.put_group.new.steps.reads c.in_err-put_group.field-0.0 c.loop-g-test.true (c.loop-g.invariant.left m e) (c.in_err-put_group.ensures.exact m (c.loop-g.invariant.reading.same ∙ e)) (omega (arith, c.in_err-put_group.ensures.counted, c.loop-g.invariant.counted)))

pub returns-in_err-put_group-clause-reading : goal.returns-in_err-put_group-clause-reading
returns-in_err-put_group-clause-reading g c =
    read_on g.D.Device g.met.D.Device.only_now g.met.D.Device.counts_now c.args.dev.now c.loop-g.dev c.put_group.new.dev c.args.steps.now c.loop-g.steps c.put_group.new.steps c.loop-g.invariant.reading c.in_err-put_group.ensures.reading

pub returns-in_err-put_group-clause-cause : goal.returns-in_err-put_group-clause-cause
returns-in_err-put_group-clause-cause g c =
    err_cause {T = Vec GroupHeads} (g.D.Device.faults c.args.dev.now) (g.D.Device.faults c.loop-g.dev) (g.D.Device.faults c.put_group.new.dev) c.in_err-put_group.field-0.0 c.from_residual.result c.from_residual.ensures c.loop-g.invariant.calm c.in_err-put_group.ensures.cause

pub returns-clause-exact : goal.returns-clause-exact
returns-clause-exact g c = λ m e. (
  sym (c.loop-g.invariant.left m e) ∙ none_left (layout c.args.geo.now) (m Image) c.loop-g.g c.args.geo.now.agcount c.loop-g-test.false,
  omega (arith, c.loop-g.invariant.counted, c.loop-g-test.false, c.loop-g.auto.g-end),
)
