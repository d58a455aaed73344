use Rattle.std.proofs.Common.{◌-◌, ◌∙◌, sym, refl, arith}
use Rattle.blk_device.specs.declared.device.Region.TheVariants.{Image}
use Rattle.blk_device.specs.ReadingLaws.{nothing_read, read_on}
use Rattle.geom.specs.Places.{layout}
use Rattle.inode_pass.specs.Units.{opened_state}
use Rattle.check_phases.specs.Checks.{ChecksPhase}
use Rattle.check_phases.specs.Phases.{Mappings, lacks_nothing}
use Rattle.check_phases.proofs.PartLemmas.{part_begun, part_ended, part_goes_on, part_stops}
use Rattle.space_check.proofs.EventLemmas.{err_cause, with_err}
use Rattle.image_check.proofs.PieceLemmas.{ready_here}
use Rattle.check_phases.proofs.AddedLemmas.{groups_begun, groups_ended, groups_go_on, groups_stop}
use Rattle.check_phases.specs.Parts.{AddsGroups}
use Rattle.image_check.proofs.UnitsLemmas.{any_mapping}
use Rattle.image_check.specs.Units.{IsMappingPart}
use Rattle.check_phases.proofs.KeptToldLemmas.{keep_begun, keep_ended, keep_on, keep_stop}
use Rattle.image_check.specs.Kept.{KeepsMappings, trees_only}
use Rattle.image_check.proofs.mappings.check_mapping_part.Goals as goal

pub loop-g-init : goal.loop-g-init
loop-g-init g c = record {
  exact = λ m e. part_begun (opened_state (layout c.args.geo.now) (m Image)) Mappings lacks_nothing c.args.part.from (c.args.part.from - c.args.part.from) c.args.tally.now (omega arith);
  added = groups_begun IsMappingPart c.args.part.from (c.args.part.from - c.args.part.from) c.args.tally.now (omega arith);
  others = λ h le. refl;
  groups = refl;
  kept = keep_begun (trees_only (layout c.args.geo.now)) (layout c.args.geo.now) (g.D.Device.content c.args.dev.now) Mappings lacks_nothing c.args.part.from (c.args.part.from - c.args.part.from) c.args.tally.now c.args.steps.now.reads (omega arith);
  reading = nothing_read g.D.Device g.met.D.Device.only_now g.met.D.Device.counts_now c.args.dev.now c.args.steps.now;
  calm = refl;
}

pub check_claims_of-requires-clause-heads : goal.check_claims_of-requires-clause-heads
check_claims_of-requires-clause-heads g c = λ m e. c.requires.heads m (sym c.loop-g.invariant.reading.same ∙ e)

pub loop-g-preserved : goal.loop-g-preserved
loop-g-preserved g c = record {
  exact = λ m e. part_goes_on (opened_state (layout c.args.geo.now) (m Image)) Mappings lacks_nothing c.args.part.from c.loop-g.g c.args.tally.now c.loop-g.tally c.check_claims_of.new.tally c.loop-g.auto.g (c.loop-g.invariant.exact m e) (c.in_ok-check_claims_of.ensures.exact m (c.loop-g.invariant.reading.same ∙ e) (ready_here (layout c.args.geo.now) (m Image) c.loop-g.g c.args.inodes.now c.args.sets.now c.loop-g.sets (c.loop-g.invariant.others c.loop-g.g (omega arith)) (c.requires.ready m e c.loop-g.g (let lt = c.loop-g-test.true in let le = c.requires.part in omega (arith, lt, le)))));
  added = groups_go_on IsMappingPart c.args.part.from c.loop-g.g c.args.tally.now c.loop-g.tally c.check_claims_of.new.tally c.loop-g.auto.g c.loop-g.invariant.added c.in_ok-check_claims_of.ensures.added;
  others = λ h le. c.in_ok-check_claims_of.ensures.others h (omega (arith, le)) ∙ c.loop-g.invariant.others h (omega (arith, le));
  groups = c.in_ok-check_claims_of.ensures.groups ∙ c.loop-g.invariant.groups;
  kept = keep_on (trees_only (layout c.args.geo.now)) (layout c.args.geo.now) (g.D.Device.content c.args.dev.now) Mappings lacks_nothing c.args.part.from c.loop-g.g c.args.tally.now c.loop-g.tally c.check_claims_of.new.tally c.args.steps.now.reads c.loop-g.steps.reads c.check_claims_of.new.steps.reads (g.D.Device.content c.loop-g.dev) c.loop-g.invariant.reading.same c.loop-g.auto.g c.loop-g.invariant.kept (λ m e. c.in_ok-check_claims_of.ensures.kept m e (ready_here (layout c.args.geo.now) (m Image) c.loop-g.g c.args.inodes.now c.args.sets.now c.loop-g.sets (c.loop-g.invariant.others c.loop-g.g (omega arith)) (c.requires.ready m (sym c.loop-g.invariant.reading.same ∙ e) c.loop-g.g (let lt = c.loop-g-test.true in let le = c.requires.part in omega (arith, lt, le)))));
  reading = read_on g.D.Device g.met.D.Device.only_now g.met.D.Device.counts_now c.args.dev.now c.loop-g.dev c.check_claims_of.new.dev c.args.steps.now c.loop-g.steps c.check_claims_of.new.steps c.loop-g.invariant.reading c.in_ok-check_claims_of.ensures.reading;
  calm = c.in_ok-check_claims_of.ensures.cause ∙ c.loop-g.invariant.calm;
}

pub returns-in_err-check_claims_of-clause-exact : goal.returns-in_err-check_claims_of-clause-exact
returns-in_err-check_claims_of-clause-exact g c = λ m e.
    let a = opened_state (layout c.args.geo.now) (m Image) in
    with_err {T = Unit {0}} (λ r. ChecksPhase a Mappings lacks_nothing c.args.part.from (c.args.part.to - c.args.part.from) c.args.tally.now c.check_claims_of.new.tally r) c.in_err-check_claims_of.field-0.0 c.from_residual.result c.from_residual.ensures
    (part_stops a Mappings lacks_nothing c.args.part.from c.args.part.to c.loop-g.g c.args.tally.now c.loop-g.tally c.check_claims_of.new.tally c.in_err-check_claims_of.field-0.0 c.loop-g.auto.g c.loop-g-test.true (c.loop-g.invariant.exact m e) (c.in_err-check_claims_of.ensures.exact m (c.loop-g.invariant.reading.same ∙ e) (ready_here (layout c.args.geo.now) (m Image) c.loop-g.g c.args.inodes.now c.args.sets.now c.loop-g.sets (c.loop-g.invariant.others c.loop-g.g (omega arith)) (c.requires.ready m e c.loop-g.g (let lt = c.loop-g-test.true in let le = c.requires.part in omega (arith, lt, le))))))

pub returns-in_err-check_claims_of-clause-reading : goal.returns-in_err-check_claims_of-clause-reading
returns-in_err-check_claims_of-clause-reading g c =
    read_on g.D.Device g.met.D.Device.only_now g.met.D.Device.counts_now c.args.dev.now c.loop-g.dev c.check_claims_of.new.dev c.args.steps.now c.loop-g.steps c.check_claims_of.new.steps c.loop-g.invariant.reading c.in_err-check_claims_of.ensures.reading

pub returns-in_err-check_claims_of-clause-cause : goal.returns-in_err-check_claims_of-clause-cause
returns-in_err-check_claims_of-clause-cause g c =
    err_cause {T = Unit {0}} (g.D.Device.faults c.args.dev.now) (g.D.Device.faults c.loop-g.dev) (g.D.Device.faults c.check_claims_of.new.dev) c.in_err-check_claims_of.field-0.0 c.from_residual.result c.from_residual.ensures c.loop-g.invariant.calm c.in_err-check_claims_of.ensures.cause

pub returns-clause-exact : goal.returns-clause-exact
returns-clause-exact g c = λ m e.
    part_ended (opened_state (layout c.args.geo.now) (m Image)) Mappings lacks_nothing c.args.part.from c.args.part.to c.loop-g.g c.args.tally.now c.loop-g.tally (let end = c.loop-g.auto.g-end c.requires.order in omega (arith, c.loop-g-test.false, end)) (c.loop-g.invariant.exact m e)

pub check_claims_of-requires-clause-sets : goal.check_claims_of-requires-clause-sets
check_claims_of-requires-clause-sets g c = c.loop-g.invariant.groups ∙ c.requires.sets

pub returns-in_err-check_claims_of-clause-added : goal.returns-in_err-check_claims_of-clause-added
returns-in_err-check_claims_of-clause-added g c =
    with_err {T = Unit {0}} (λ r. AddsGroups IsMappingPart c.args.part.from (c.args.part.to - c.args.part.from) c.args.tally.now c.check_claims_of.new.tally r) c.in_err-check_claims_of.field-0.0 c.from_residual.result c.from_residual.ensures
    (groups_stop IsMappingPart c.args.part.from any_mapping c.args.part.to c.loop-g.g c.args.tally.now c.loop-g.tally c.check_claims_of.new.tally c.in_err-check_claims_of.field-0.0 c.loop-g.auto.g c.loop-g-test.true c.loop-g.invariant.added c.in_err-check_claims_of.ensures.added)

pub returns-clause-added : goal.returns-clause-added
returns-clause-added g c =
    groups_ended IsMappingPart c.args.part.from c.args.part.to c.loop-g.g c.args.tally.now c.loop-g.tally (let end = c.loop-g.auto.g-end c.requires.order in omega (arith, c.loop-g-test.false, end)) c.loop-g.invariant.added

pub returns-in_err-check_claims_of-clause-kept : goal.returns-in_err-check_claims_of-clause-kept
returns-in_err-check_claims_of-clause-kept g c =
    with_err {T = Unit {0}} (λ r. KeepsMappings (layout c.args.geo.now) (g.D.Device.content c.args.dev.now) c.args.part c.args.tally.now c.args.steps.now.reads c.check_claims_of.new.tally c.check_claims_of.new.steps.reads r) c.in_err-check_claims_of.field-0.0 c.from_residual.result c.from_residual.ensures
    (keep_stop (trees_only (layout c.args.geo.now)) (layout c.args.geo.now) (g.D.Device.content c.args.dev.now) Mappings lacks_nothing c.args.part.from c.args.part.to c.loop-g.g c.args.tally.now c.loop-g.tally c.check_claims_of.new.tally c.args.steps.now.reads c.loop-g.steps.reads c.check_claims_of.new.steps.reads c.in_err-check_claims_of.field-0.0 (g.D.Device.content c.loop-g.dev) c.loop-g.invariant.reading.same c.loop-g.auto.g c.loop-g-test.true c.loop-g.invariant.kept (λ m e. c.in_err-check_claims_of.ensures.kept m e (ready_here (layout c.args.geo.now) (m Image) c.loop-g.g c.args.inodes.now c.args.sets.now c.loop-g.sets (c.loop-g.invariant.others c.loop-g.g (omega arith)) (c.requires.ready m (sym c.loop-g.invariant.reading.same ∙ e) c.loop-g.g (let lt = c.loop-g-test.true in let le = c.requires.part in omega (arith, lt, le))))))

pub returns-clause-kept : goal.returns-clause-kept
returns-clause-kept g c =
    keep_ended (trees_only (layout c.args.geo.now)) (layout c.args.geo.now) (g.D.Device.content c.args.dev.now) Mappings lacks_nothing c.args.part.from c.args.part.to c.loop-g.g c.args.tally.now c.loop-g.tally c.args.steps.now.reads c.loop-g.steps.reads (let end = c.loop-g.auto.g-end c.requires.order in omega (arith, c.loop-g-test.false, end)) c.loop-g.invariant.kept
