use Rattle.std.proofs.Common.{None}
use Rattle.fs_model.specs.declared.unit.Unit.TheVariants as units
use Rattle.quiet_check.specs.declared.judge.Judged.TheVariants.{GaveUp}
use Rattle.check_phases.specs.Checks.{ChecksUnit}
use Rattle.check_phases.proofs.UnitLemmas.{unit_added, unit_full}
use Rattle.space_check.proofs.EventLemmas.{with_err}
use Rattle.image_check.proofs.ForkLemmas.{bad_fork_decides}
use Rattle.check_phases.proofs.AddedLemmas as added
use Rattle.check_phases.specs.Parts.{AddsPart}
use Rattle.image_check.specs.Units.{IsMappingPart}
use Rattle.image_check.proofs.parts.give_up_group.Goals as goal

pub returns-in_err-begin-clause-exact : goal.returns-in_err-begin-clause-exact
returns-in_err-begin-clause-exact c = λ a bad.
    with_err {T = Unit {0}} (λ r. ChecksUnit a None c.args.g units.Rmap c.args.tally.now c.args.tally.now r) c.in_err-begin.field-0.0 c.from_residual.result c.from_residual.ensures
    (unit_full a None c.args.g (Unit {0}) (Unit {0}) units.Rmap c.args.tally.now c.in_err-begin.field-0.0 c.in_err-begin.ensures)

pub returns-clause-exact : goal.returns-clause-exact
returns-clause-exact c = λ a bad.
    unit_added a c.args.g units.Rmap c.args.tally.now c.add.new.self c.add.result (GaveUp c.args.evidence) (bad_fork_decides a c.args.g c.args.evidence bad) c.in_ok-begin.ensures c.add.ensures.added c.add.ensures.passed

pub returns-in_err-begin-clause-added : goal.returns-in_err-begin-clause-added
returns-in_err-begin-clause-added c =
    with_err {T = Unit {0}} (λ r. AddsPart (IsMappingPart c.args.g) c.args.tally.now c.args.tally.now r) c.in_err-begin.field-0.0 c.from_residual.result c.from_residual.ensures
    (added.unit_full c.args.g units.Rmap (Unit {0}) (Unit {0}) c.args.tally.now c.in_err-begin.field-0.0 c.in_err-begin.ensures)

pub returns-clause-added : goal.returns-clause-added
returns-clause-added c = added.unit_added c.args.g units.Rmap (GaveUp c.args.evidence) c.args.tally.now c.add.new.self c.add.result c.in_ok-begin.ensures c.add.ensures.added
