use Rattle.std.proofs.Common.{◌∙◌}
use Rattle.blk_device.specs.ReadingLaws.{cause_on, read_on}
use Rattle.blk_device.specs.declared.device.Region.TheVariants.{Image}
use Rattle.geom.specs.Places.{layout}
use Rattle.image_check.proofs.DecidedLemmas.{ends_in_heads, ends_in_units}
use Rattle.image_check.proofs.SessionLemmas.{heads_end, units_end}
use Rattle.image_check.specs.Image.{MeetsEnd, image_checked}
use Rattle.image_check.specs.Units.{EndsInSession}
use Rattle.space_check.proofs.EventLemmas.{with_err}
use Rattle.space_check.specs.Progress.{is_failed}
use Rattle.image_check.proofs.KeptUnitsLemmas as kept
use Rattle.image_check.proofs.check.check_into.Goals as goal

pub returns-in_err-heads-clause-exact : goal.returns-in_err-heads-clause-exact
returns-in_err-heads-clause-exact g c = λ m e.
    with_err {T = Unit {0}} (λ r. MeetsEnd (image_checked (layout c.args.geo.now) (m Image)) c.args.tally.now.journal.entries.items r) c.in_err-heads.field-0.0 c.from_residual.result c.from_residual.ensures
    (ends_in_heads (layout c.args.geo.now) (m Image) (Unit {0}) c.args.steps.now.reads c.read_all_heads.new.steps.reads c.args.tally.now.journal.entries.items c.in_err-heads.field-0.0 c.requires.empty (c.in_err-heads.ensures.exact m e))

pub returns-in_err-heads-clause-session : goal.returns-in_err-heads-clause-session
returns-in_err-heads-clause-session g c =
    with_err {T = Unit {0}} (λ r. EndsInSession c.args.geo.now.agcount c.args.tally.now.journal.entries.items r) c.in_err-heads.field-0.0 c.from_residual.result c.from_residual.ensures
    (heads_end c.args.geo.now.agcount c.args.tally.now c.in_err-heads.field-0.0 c.args.geo.now.fitting.some_groups c.requires.empty c.in_err-heads.ensures.clear)

pub returns-clause-exact : goal.returns-clause-exact
returns-clause-exact g c = λ m e.
    ends_in_units (layout c.args.geo.now) (m Image) c.args.tally.now.journal.entries.items c.check_units.new.tally.journal.entries.items c.check_units.result (c.in_ok-heads.ensures.exact m e).0 c.requires.empty (c.check_units.ensures.exact m (c.in_ok-heads.ensures.reading.same ∙ e))

pub returns-clause-session : goal.returns-clause-session
returns-clause-session g c = units_end c.args.geo.now.agcount c.args.tally.now.journal.entries.items c.check_units.new.tally.journal.entries.items c.check_units.result c.requires.empty c.check_units.ensures.session

pub returns-clause-reading : goal.returns-clause-reading
returns-clause-reading g c =
    read_on g.D.Device g.met.D.Device.only_now g.met.D.Device.counts_now c.args.dev.now c.read_all_heads.new.dev c.check_units.new.dev c.args.steps.now c.read_all_heads.new.steps c.check_units.new.steps c.in_ok-heads.ensures.reading c.check_units.ensures.reading

pub returns-clause-cause : goal.returns-clause-cause
returns-clause-cause g c = cause_on is_failed (g.D.Device.faults c.args.dev.now) (g.D.Device.faults c.read_all_heads.new.dev) (g.D.Device.faults c.check_units.new.dev) c.check_units.result c.in_ok-heads.ensures.cause c.check_units.ensures.cause

pub returns-in_err-heads-clause-kept : goal.returns-in_err-heads-clause-kept
returns-in_err-heads-clause-kept g c = λ m e.
    kept.heads_end (layout c.args.geo.now) (m Image) c.in_err-heads.field-0.0 c.args.steps.now.reads c.read_all_heads.new.steps.reads c.args.tally.now.journal.entries.items c.requires.empty (c.in_err-heads.ensures.exact m e)

pub returns-clause-kept : goal.returns-clause-kept
returns-clause-kept g c = λ m e.
    kept.units_end (layout c.args.geo.now) (m Image) c.args.steps.now.reads c.read_all_heads.new.steps.reads c.check_units.new.steps.reads c.args.tally.now.journal.entries.items c.check_units.new.tally.journal.entries.items c.check_units.result (c.in_ok-heads.ensures.exact m e).0 (c.in_ok-heads.ensures.exact m e).1 c.requires.empty (c.check_units.ensures.kept m (c.in_ok-heads.ensures.reading.same ∙ e))
