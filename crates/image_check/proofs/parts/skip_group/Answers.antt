use Rattle.std.proofs.Common.{Some}
use Rattle.fs_model.specs.declared.unit.Unit.TheVariants as units
use Rattle.fs_model.specs.declared.verdict.Verdict.TheVariants.{Skipped}
use Rattle.check_phases.specs.Checks.{ChecksUnit}
use Rattle.check_phases.proofs.UnitLemmas.{unit_full, unit_skipped}
use Rattle.space_check.proofs.EventLemmas.{with_err}
use Rattle.check_phases.proofs.AddedLemmas as added
use Rattle.check_phases.specs.Parts.{AddsPart}
use Rattle.image_check.specs.Units.{IsSkippedFor}
use Rattle.image_check.proofs.parts.skip_group.Goals as goal

pub returns-in_err-begin-clause-exact : goal.returns-in_err-begin-clause-exact
returns-in_err-begin-clause-exact c = λ a.
    with_err {T = Unit {0}} (λ r. ChecksUnit a (Some c.args.needed) c.args.g units.Rmap c.args.tally.now c.args.tally.now r) c.in_err-begin.field-0.0 c.from_residual.result c.from_residual.ensures
    (unit_full a (Some c.args.needed) c.args.g (Unit {0}) (Unit {0}) units.Rmap c.args.tally.now c.in_err-begin.field-0.0 c.in_err-begin.ensures)

pub returns-clause-exact : goal.returns-clause-exact
returns-clause-exact c = λ a.
    unit_skipped a c.args.g units.Rmap c.args.tally.now c.skip.new.self c.skip.result c.args.needed c.in_ok-begin.ensures c.skip.ensures.added c.skip.ensures.passed

pub returns-in_err-begin-clause-added : goal.returns-in_err-begin-clause-added
returns-in_err-begin-clause-added c =
    with_err {T = Unit {0}} (λ r. AddsPart (IsSkippedFor c.args.needed c.args.g) c.args.tally.now c.args.tally.now r) c.in_err-begin.field-0.0 c.from_residual.result c.from_residual.ensures
    (added.verdict_full c.args.g (Skipped c.args.needed.0 c.args.needed.1) (Unit {0}) (Unit {0}) units.Rmap c.args.tally.now c.in_err-begin.field-0.0 c.in_err-begin.ensures)

pub returns-clause-added : goal.returns-clause-added
returns-clause-added c = added.verdict_added c.args.g (Skipped c.args.needed.0 c.args.needed.1) units.Rmap c.args.tally.now c.skip.new.self c.skip.result c.in_ok-begin.ensures c.skip.ensures.added
