use Rattle.std.proofs.Common.{◌-◌, arith}
use Rattle.check_phases.specs.Checks.{ChecksPhase}
use Rattle.check_phases.specs.Phases.{Mappings, lacks_nothing}
use Rattle.check_phases.proofs.PartLemmas.{part_begun, part_ended, part_goes_on, part_stops}
use Rattle.space_check.proofs.EventLemmas.{with_err}
use Rattle.check_phases.proofs.AddedLemmas.{groups_begun, groups_ended, groups_go_on, groups_stop}
use Rattle.check_phases.specs.Parts.{AddsGroups}
use Rattle.image_check.proofs.UnitsLemmas.{any_mapping}
use Rattle.image_check.specs.Units.{IsMappingPart}
use Rattle.image_check.proofs.parts.give_up_part.Goals as goal

pub loop-g-init : goal.loop-g-init
loop-g-init c = record {
  exact = λ a bad. part_begun a Mappings lacks_nothing c.args.part.from (c.args.part.from - c.args.part.from) c.args.tally.now (omega arith);
  added = groups_begun IsMappingPart c.args.part.from (c.args.part.from - c.args.part.from) c.args.tally.now (omega arith);
}

pub loop-g-preserved : goal.loop-g-preserved
loop-g-preserved c = record {
  exact = λ a bad. part_goes_on a Mappings lacks_nothing c.args.part.from c.loop-g.g c.args.tally.now c.loop-g.tally c.give_up_group.new.tally c.loop-g.auto.g (c.loop-g.invariant.exact a bad) (c.in_ok-give_up_group.ensures.exact a bad);
  added = groups_go_on IsMappingPart c.args.part.from c.loop-g.g c.args.tally.now c.loop-g.tally c.give_up_group.new.tally c.loop-g.auto.g c.loop-g.invariant.added c.in_ok-give_up_group.ensures.added;
}

pub returns-in_err-give_up_group-clause-exact : goal.returns-in_err-give_up_group-clause-exact
returns-in_err-give_up_group-clause-exact c = λ a bad.
    with_err {T = Unit {0}} (λ r. ChecksPhase a Mappings lacks_nothing c.args.part.from (c.args.part.to - c.args.part.from) c.args.tally.now c.give_up_group.new.tally r) c.in_err-give_up_group.field-0.0 c.from_residual.result c.from_residual.ensures
    (part_stops a Mappings lacks_nothing c.args.part.from c.args.part.to c.loop-g.g c.args.tally.now c.loop-g.tally c.give_up_group.new.tally c.in_err-give_up_group.field-0.0 c.loop-g.auto.g c.loop-g-test.true (c.loop-g.invariant.exact a bad) (c.in_err-give_up_group.ensures.exact a bad))

pub returns-clause-exact : goal.returns-clause-exact
returns-clause-exact c = λ a bad.
    part_ended a Mappings lacks_nothing c.args.part.from c.args.part.to c.loop-g.g c.args.tally.now c.loop-g.tally (let end = c.loop-g.auto.g-end c.requires.order in omega (arith, c.loop-g-test.false, end)) (c.loop-g.invariant.exact a bad)

pub returns-in_err-give_up_group-clause-added : goal.returns-in_err-give_up_group-clause-added
returns-in_err-give_up_group-clause-added c =
    with_err {T = Unit {0}} (λ r. AddsGroups IsMappingPart c.args.part.from (c.args.part.to - c.args.part.from) c.args.tally.now c.give_up_group.new.tally r) c.in_err-give_up_group.field-0.0 c.from_residual.result c.from_residual.ensures
    (groups_stop IsMappingPart c.args.part.from any_mapping c.args.part.to c.loop-g.g c.args.tally.now c.loop-g.tally c.give_up_group.new.tally c.in_err-give_up_group.field-0.0 c.loop-g.auto.g c.loop-g-test.true c.loop-g.invariant.added c.in_err-give_up_group.ensures.added)

pub returns-clause-added : goal.returns-clause-added
returns-clause-added c =
    groups_ended IsMappingPart c.args.part.from c.args.part.to c.loop-g.g c.args.tally.now c.loop-g.tally (let end = c.loop-g.auto.g-end c.requires.order in omega (arith, c.loop-g-test.false, end)) c.loop-g.invariant.added
