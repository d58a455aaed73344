use Rattle.std.proofs.Common.{◌∙◌, None}
use Rattle.blk_device.specs.declared.device.Region.TheVariants.{Image}
use Rattle.blk_device.specs.ReadingLaws.{read_on}
use Rattle.geom.specs.Places.{layout}
use Rattle.inode_pass.specs.Units.{opened_state}
use Rattle.check_phases.specs.Checks.{ChecksSpace}
use Rattle.check_phases.proofs.UnitLemmas.{first_stops, second_checks}
use Rattle.space_check.proofs.EventLemmas.{with_err}
use Rattle.check_phases.proofs.AddedLemmas as added
use Rattle.check_phases.specs.Parts.{AddsPart, IsSpacePart}
use Rattle.check_phases.proofs.KeptToldLemmas as kept
use Rattle.check_phases.specs.Kept.{KeepsBoth}
use Rattle.check_phases.proofs.space.check_both.Goals as goal

pub returns-in_err-check_free-clause-exact : goal.returns-in_err-check_free-clause-exact
returns-in_err-check_free-clause-exact g c = λ m e is.
    let a = opened_state (layout c.args.geo.now) (m Image) in
    with_err {T = Unit {0}} (λ r. ChecksSpace a None c.args.g c.args.tally.now c.check_free.new.tally r) c.in_err-check_free.field-0.0 c.from_residual.result c.from_residual.ensures
    (first_stops a None c.args.g (Unit {0}) (Unit {0}) c.args.tally.now c.check_free.new.tally c.in_err-check_free.field-0.0 (c.in_err-check_free.ensures.exact m e is))

pub returns-clause-exact : goal.returns-clause-exact
returns-clause-exact g c = λ m e is.
    second_checks (opened_state (layout c.args.geo.now) (m Image)) None c.args.g (Unit {0}) (Unit {0}) c.args.tally.now c.check_free.new.tally c.check_counts.new.tally tt c.check_counts.result (c.in_ok-check_free.ensures.exact m e is) (c.check_counts.ensures.exact m (c.in_ok-check_free.ensures.reading.same ∙ e) is)

pub returns-clause-reading : goal.returns-clause-reading
returns-clause-reading g c =
    read_on g.D.Device g.met.D.Device.only_now g.met.D.Device.counts_now c.args.dev.now c.check_free.new.dev c.check_counts.new.dev c.args.steps.now c.check_free.new.steps c.check_counts.new.steps c.check_free.ensures.reading c.check_counts.ensures.reading

pub returns-in_err-check_free-clause-added : goal.returns-in_err-check_free-clause-added
returns-in_err-check_free-clause-added g c =
    with_err {T = Unit {0}} (λ r. AddsPart (IsSpacePart c.args.g) c.args.tally.now c.check_free.new.tally r) c.in_err-check_free.field-0.0 c.from_residual.result c.from_residual.ensures
    (added.free_stops c.args.g (Unit {0}) (Unit {0}) c.args.tally.now c.check_free.new.tally c.in_err-check_free.field-0.0 c.in_err-check_free.ensures.added)

pub returns-clause-added : goal.returns-clause-added
returns-clause-added g c =
    added.both_added c.args.g {S = Unit {0}} {T = Unit {0}} c.args.tally.now c.check_free.new.tally c.check_counts.new.tally tt c.check_counts.result c.in_ok-check_free.ensures.added c.check_counts.ensures.added

pub returns-in_err-check_free-clause-kept : goal.returns-in_err-check_free-clause-kept
returns-in_err-check_free-clause-kept g c =
    with_err {T = Unit {0}} (λ r. KeepsBoth (layout c.args.geo.now) (g.D.Device.content c.args.dev.now) c.args.g c.args.agf.now c.args.mapped.now c.args.tally.now c.args.steps.now.reads c.check_free.new.tally c.check_free.new.steps.reads r) c.in_err-check_free.field-0.0 c.from_residual.result c.from_residual.ensures
    (kept.free_stops (layout c.args.geo.now) (g.D.Device.content c.args.dev.now) c.args.g c.args.agf.now c.args.mapped.now (Unit {0}) (Unit {0}) c.args.tally.now c.check_free.new.tally c.args.steps.now.reads c.check_free.new.steps.reads c.in_err-check_free.field-0.0 c.in_err-check_free.ensures.kept)

pub returns-clause-kept : goal.returns-clause-kept
returns-clause-kept g c =
    kept.both_keep (layout c.args.geo.now) (g.D.Device.content c.args.dev.now) c.args.g c.args.agf.now c.args.mapped.now (Unit {0}) tt c.args.tally.now c.check_free.new.tally c.check_counts.new.tally c.args.steps.now.reads c.check_free.new.steps.reads c.check_counts.new.steps.reads (g.D.Device.content c.check_free.new.dev) c.check_counts.result c.in_ok-check_free.ensures.reading.same c.in_ok-check_free.ensures.kept c.check_counts.ensures.kept
