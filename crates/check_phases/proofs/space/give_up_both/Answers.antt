use Rattle.std.proofs.Common.{ℕ, Err, Ok}
use Rattle.fs_model.specs.declared.claim.Evidence.TheVariants.{BadTree}
use Rattle.fs_model.specs.declared.unit.Unit.TheVariants as units
use Rattle.fs_model.specs.declared.verdict.Reason.TheVariants.{Contradiction}
use Rattle.fs_model.specs.declared.verdict.Verdict.{Verdict}
use Rattle.fs_model.specs.declared.verdict.Verdict.TheVariants.{GaveUp}
use Rattle.sblock.specs.declared.kind.Kind.TheVariants.{Rmap}
use Rattle.space_check.proofs.EventLemmas.{with_err}
use Rattle.check_phases.proofs.AddedLemmas as added
use Rattle.check_phases.specs.Parts.{AddsPart, AreGivenUp}
use Rattle.check_phases.proofs.space.give_up_both.Goals as goal

abbrev given_up : ℕ → Verdict
given_up block = GaveUp (Contradiction (BadTree Rmap block))

pub returns-in_err-add-clause-added : goal.returns-in_err-add-clause-added
returns-in_err-add-clause-added c =
    with_err {T = Unit {0}} (λ r. AddsPart (AreGivenUp c.args.block c.args.g) c.args.tally.now c.add.new.self r) c.in_err-add.field-0.0 c.from_residual.result c.from_residual.ensures
    (added.verdict_stops c.args.g (given_up c.args.block) (Unit {0}) (Unit {0}) c.args.tally.now c.add.new.self c.in_err-add.field-0.0
    (added.verdict_added c.args.g (given_up c.args.block) {T = Unit {0}} units.Free c.args.tally.now c.add.new.self (Err c.in_err-add.field-0.0) c.requires.begun c.in_err-add.ensures.added))

pub returns-in_err-begin-clause-added : goal.returns-in_err-begin-clause-added
returns-in_err-begin-clause-added c =
    with_err {T = Unit {0}} (λ r. AddsPart (AreGivenUp c.args.block c.args.g) c.args.tally.now c.add.new.self r) c.in_err-begin.field-0.0 c.from_residual-in_err-begin.result c.from_residual-in_err-begin.ensures
    (added.verdicts_added c.args.g (given_up c.args.block) {S = Unit {0}} {T = Unit {0}} c.args.tally.now c.add.new.self c.add.new.self tt (Err c.in_err-begin.field-0.0)
    (added.verdict_added c.args.g (given_up c.args.block) {T = Unit {0}} units.Free c.args.tally.now c.add.new.self (Ok tt) c.requires.begun c.in_ok-add.ensures.added)
    (added.verdict_full c.args.g (given_up c.args.block) (Unit {0}) (Unit {0}) units.Refc c.add.new.self c.in_err-begin.field-0.0 c.in_err-begin.ensures))

pub returns-clause-added : goal.returns-clause-added
returns-clause-added c =
    added.verdicts_added c.args.g (given_up c.args.block) {S = Unit {0}} {T = Unit {0}} c.args.tally.now c.add.new.self c.add-2.new.self tt c.add-2.result
    (added.verdict_added c.args.g (given_up c.args.block) {T = Unit {0}} units.Free c.args.tally.now c.add.new.self (Ok tt) c.requires.begun c.in_ok-add.ensures.added)
    (added.verdict_added c.args.g (given_up c.args.block) units.Refc c.add.new.self c.add-2.new.self c.add-2.result c.in_ok-begin.ensures c.add-2.ensures.added)
