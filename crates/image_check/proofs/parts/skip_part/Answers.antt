use Rattle.std.proofs.Common.{◌-◌, ℕ, Some, arith}
use Rattle.check_phases.specs.Checks.{ChecksPhase}
use Rattle.check_phases.specs.Phases.{Mappings}
use Rattle.check_phases.proofs.PartLemmas.{part_begun, part_ended, part_goes_on, part_stops}
use Rattle.space_check.proofs.EventLemmas.{with_err}
use Rattle.check_phases.proofs.AddedLemmas.{groups_begun, groups_ended, groups_go_on, groups_stop}
use Rattle.check_phases.specs.Parts.{AddsGroups}
use Rattle.image_check.proofs.UnitsLemmas.{any_skipped}
use Rattle.image_check.specs.Units.{IsSkippedFor}
use Rattle.image_check.proofs.parts.skip_part.Goals as goal

pub loop-g-init : goal.loop-g-init
loop-g-init c = record {
  exact = λ a. part_begun a Mappings (λ (h : ℕ). Some c.args.needed) c.args.part.from (c.args.part.from - c.args.part.from) c.args.tally.now (omega arith);
  added = groups_begun (IsSkippedFor c.args.needed) c.args.part.from (c.args.part.from - c.args.part.from) c.args.tally.now (omega arith);
}

pub loop-g-preserved : goal.loop-g-preserved
loop-g-preserved c = record {
  exact = λ a. part_goes_on a Mappings (λ (h : ℕ). Some c.args.needed) c.args.part.from c.loop-g.g c.args.tally.now c.loop-g.tally c.skip_group.new.tally c.loop-g.auto.g (c.loop-g.invariant.exact a) (c.in_ok-skip_group.ensures.exact a);
  added = groups_go_on (IsSkippedFor c.args.needed) c.args.part.from c.loop-g.g c.args.tally.now c.loop-g.tally c.skip_group.new.tally c.loop-g.auto.g c.loop-g.invariant.added c.in_ok-skip_group.ensures.added;
}

pub returns-in_err-skip_group-clause-exact : goal.returns-in_err-skip_group-clause-exact
returns-in_err-skip_group-clause-exact c = λ a.
    with_err {T = Unit {0}} (λ r. ChecksPhase a Mappings (λ (h : ℕ). Some c.args.needed) c.args.part.from (c.args.part.to - c.args.part.from) c.args.tally.now c.skip_group.new.tally r) c.in_err-skip_group.field-0.0 c.from_residual.result c.from_residual.ensures
    (part_stops a Mappings (λ (h : ℕ). Some c.args.needed) c.args.part.from c.args.part.to c.loop-g.g c.args.tally.now c.loop-g.tally c.skip_group.new.tally c.in_err-skip_group.field-0.0 c.loop-g.auto.g c.loop-g-test.true (c.loop-g.invariant.exact a) (c.in_err-skip_group.ensures.exact a))

pub returns-clause-exact : goal.returns-clause-exact
returns-clause-exact c = λ a.
    part_ended a Mappings (λ (h : ℕ). Some c.args.needed) c.args.part.from c.args.part.to c.loop-g.g c.args.tally.now c.loop-g.tally (let end = c.loop-g.auto.g-end c.requires.order in omega (arith, c.loop-g-test.false, end)) (c.loop-g.invariant.exact a)

pub returns-in_err-skip_group-clause-added : goal.returns-in_err-skip_group-clause-added
returns-in_err-skip_group-clause-added c =
    with_err {T = Unit {0}} (λ r. AddsGroups (IsSkippedFor c.args.needed) c.args.part.from (c.args.part.to - c.args.part.from) c.args.tally.now c.skip_group.new.tally r) c.in_err-skip_group.field-0.0 c.from_residual.result c.from_residual.ensures
    (groups_stop (IsSkippedFor c.args.needed) c.args.part.from (any_skipped c.args.needed) c.args.part.to c.loop-g.g c.args.tally.now c.loop-g.tally c.skip_group.new.tally c.in_err-skip_group.field-0.0 c.loop-g.auto.g c.loop-g-test.true c.loop-g.invariant.added c.in_err-skip_group.ensures.added)

pub returns-clause-added : goal.returns-clause-added
returns-clause-added c =
    groups_ended (IsSkippedFor c.args.needed) c.args.part.from c.args.part.to c.loop-g.g c.args.tally.now c.loop-g.tally (let end = c.loop-g.auto.g-end c.requires.order in omega (arith, c.loop-g-test.false, end)) c.loop-g.invariant.added
