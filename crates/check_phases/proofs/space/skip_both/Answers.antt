use Rattle.std.proofs.Common.{Some, Err}
use Rattle.fs_model.specs.declared.unit.Unit.TheVariants as units
use Rattle.fs_model.specs.declared.verdict.Verdict.TheVariants.{Skipped}
use Rattle.check_phases.specs.Checks.{ChecksSpace}
use Rattle.check_phases.proofs.UnitLemmas.{both_full, first_stops, second_checks, unit_full, unit_skipped}
use Rattle.space_check.proofs.EventLemmas.{with_err}
use Rattle.std.specs.Prelude.{Ok}
use Rattle.check_phases.proofs.AddedLemmas as added
use Rattle.check_phases.specs.Parts.{AddsPart, AreSkipped}
use Rattle.check_phases.proofs.space.skip_both.Goals as goal

pub returns-in_err-begin-clause-exact : goal.returns-in_err-begin-clause-exact
returns-in_err-begin-clause-exact c = λ a.
    with_err {T = Unit {0}} (λ r. ChecksSpace a (Some c.args.needed) c.args.g c.args.tally.now c.args.tally.now r) c.in_err-begin.field-0.0 c.from_residual.result c.from_residual.ensures
    (both_full a (Some c.args.needed) c.args.g (Unit {0}) (Unit {0}) c.args.tally.now c.in_err-begin.field-0.0 c.in_err-begin.ensures)

pub returns-in_err-skip-clause-exact : goal.returns-in_err-skip-clause-exact
returns-in_err-skip-clause-exact c = λ a.
    with_err {T = Unit {0}} (λ r. ChecksSpace a (Some c.args.needed) c.args.g c.args.tally.now c.skip.new.self r) c.in_err-skip.field-0.0 c.from_residual-in_err-skip.result c.from_residual-in_err-skip.ensures
    (first_stops a (Some c.args.needed) c.args.g (Unit {0}) (Unit {0}) c.args.tally.now c.skip.new.self c.in_err-skip.field-0.0
    (unit_skipped {T = Unit {0}} a c.args.g units.Free c.args.tally.now c.skip.new.self (Err c.in_err-skip.field-0.0) c.args.needed c.in_ok-begin.ensures c.in_err-skip.ensures.added c.in_err-skip.ensures.passed))

pub returns-in_err-begin-2-clause-exact : goal.returns-in_err-begin-2-clause-exact
returns-in_err-begin-2-clause-exact c = λ a.
    with_err {T = Unit {0}} (λ r. ChecksSpace a (Some c.args.needed) c.args.g c.args.tally.now c.skip.new.self r) c.in_err-begin-2.field-0.0 c.from_residual-in_err-begin-2.result c.from_residual-in_err-begin-2.ensures
    (second_checks a (Some c.args.needed) c.args.g (Unit {0}) (Unit {0}) c.args.tally.now c.skip.new.self c.skip.new.self tt (Err c.in_err-begin-2.field-0.0)
    (unit_skipped {T = Unit {0}} a c.args.g units.Free c.args.tally.now c.skip.new.self (Ok tt) c.args.needed c.in_ok-begin.ensures c.in_ok-skip.ensures.added c.in_ok-skip.ensures.passed)
    (unit_full a (Some c.args.needed) c.args.g (Unit {0}) (Unit {0}) units.Refc c.skip.new.self c.in_err-begin-2.field-0.0 c.in_err-begin-2.ensures))

pub returns-clause-exact : goal.returns-clause-exact
returns-clause-exact c = λ a.
    second_checks a (Some c.args.needed) c.args.g (Unit {0}) (Unit {0}) c.args.tally.now c.skip.new.self c.skip-2.new.self tt c.skip-2.result
    (unit_skipped {T = Unit {0}} a c.args.g units.Free c.args.tally.now c.skip.new.self (Ok tt) c.args.needed c.in_ok-begin.ensures c.in_ok-skip.ensures.added c.in_ok-skip.ensures.passed)
    (unit_skipped a c.args.g units.Refc c.skip.new.self c.skip-2.new.self c.skip-2.result c.args.needed c.in_ok-begin-2.ensures c.skip-2.ensures.added c.skip-2.ensures.passed)

pub returns-in_err-begin-clause-added : goal.returns-in_err-begin-clause-added
returns-in_err-begin-clause-added c =
    with_err {T = Unit {0}} (λ r. AddsPart (AreSkipped c.args.needed c.args.g) c.args.tally.now c.args.tally.now r) c.in_err-begin.field-0.0 c.from_residual.result c.from_residual.ensures
    (added.verdicts_full c.args.g (Skipped c.args.needed.0 c.args.needed.1) (Unit {0}) (Unit {0}) c.args.tally.now c.in_err-begin.field-0.0 c.in_err-begin.ensures)

pub returns-in_err-skip-clause-added : goal.returns-in_err-skip-clause-added
returns-in_err-skip-clause-added c =
    with_err {T = Unit {0}} (λ r. AddsPart (AreSkipped c.args.needed c.args.g) c.args.tally.now c.skip.new.self r) c.in_err-skip.field-0.0 c.from_residual-in_err-skip.result c.from_residual-in_err-skip.ensures
    (added.verdict_stops c.args.g (Skipped c.args.needed.0 c.args.needed.1) (Unit {0}) (Unit {0}) c.args.tally.now c.skip.new.self c.in_err-skip.field-0.0
    (added.verdict_added c.args.g (Skipped c.args.needed.0 c.args.needed.1) {T = Unit {0}} units.Free c.args.tally.now c.skip.new.self (Err c.in_err-skip.field-0.0) c.in_ok-begin.ensures c.in_err-skip.ensures.added))

pub returns-in_err-begin-2-clause-added : goal.returns-in_err-begin-2-clause-added
returns-in_err-begin-2-clause-added c =
    with_err {T = Unit {0}} (λ r. AddsPart (AreSkipped c.args.needed c.args.g) c.args.tally.now c.skip.new.self r) c.in_err-begin-2.field-0.0 c.from_residual-in_err-begin-2.result c.from_residual-in_err-begin-2.ensures
    (added.verdicts_added c.args.g (Skipped c.args.needed.0 c.args.needed.1) {S = Unit {0}} {T = Unit {0}} c.args.tally.now c.skip.new.self c.skip.new.self tt (Err c.in_err-begin-2.field-0.0)
    (added.verdict_added c.args.g (Skipped c.args.needed.0 c.args.needed.1) {T = Unit {0}} units.Free c.args.tally.now c.skip.new.self (Ok tt) c.in_ok-begin.ensures c.in_ok-skip.ensures.added)
    (added.verdict_full c.args.g (Skipped c.args.needed.0 c.args.needed.1) (Unit {0}) (Unit {0}) units.Refc c.skip.new.self c.in_err-begin-2.field-0.0 c.in_err-begin-2.ensures))

pub returns-clause-added : goal.returns-clause-added
returns-clause-added c =
    added.verdicts_added c.args.g (Skipped c.args.needed.0 c.args.needed.1) {S = Unit {0}} {T = Unit {0}} c.args.tally.now c.skip.new.self c.skip-2.new.self tt c.skip-2.result
    (added.verdict_added c.args.g (Skipped c.args.needed.0 c.args.needed.1) {T = Unit {0}} units.Free c.args.tally.now c.skip.new.self (Ok tt) c.in_ok-begin.ensures c.in_ok-skip.ensures.added)
    (added.verdict_added c.args.g (Skipped c.args.needed.0 c.args.needed.1) units.Refc c.skip.new.self c.skip-2.new.self c.skip-2.result c.in_ok-begin-2.ensures c.skip-2.ensures.added)
