use Rattle.std.proofs.Common.{◌∙◌, None, subst, sym}
use Rattle.blk_device.specs.ReadingLaws.{read_on}
use Rattle.blk_device.specs.declared.device.Region.TheVariants.{Image}
use Rattle.check_phases.specs.Phases.{Mappings, lacks_inodes}
use Rattle.fork_pass.specs.Passed.{AreForksOf, HasSets}
use Rattle.fork_pass.specs.declared.pass.ForksSeen.{ForksSeen}
use Rattle.geom.specs.Places.{layout}
use Rattle.inode_pass.specs.Units.{opened_state}
use Rattle.space_check.proofs.EventLemmas.{with_err}
use Rattle.image_check.proofs.AllLemmas.{are_ready, cut_phase, full_phase, of_whole}
use Rattle.image_check.specs.Checked.{ChecksAll}
use Rattle.check_phases.proofs.AddedLemmas.{of_all}
use Rattle.check_phases.specs.Parts.{AddsPart, AreParts}
use Rattle.image_check.proofs.UnitsLemmas.{mappings_cut, mappings_full}
use Rattle.image_check.specs.Units.{IsMappingPart}
use Rattle.check_phases.proofs.KeptLemmas.{none_begun}
use Rattle.check_phases.specs.Kept.{come}
use Rattle.check_phases.proofs.KeptToldLemmas.{phase_alike, unread}
use Rattle.check_phases.specs.Phases.{lacks_nothing, phase_events, phase_passes}
use Rattle.image_check.proofs.InodesLemmas.{still_chunks, still_inside}
use Rattle.image_check.proofs.ReadLemmas.{all_behind, forks_read, phase_cut}
use Rattle.image_check.specs.Kept.{KeepsAll, all_kept, mappings_kept, trees_only}
use Rattle.image_check.proofs.image.check_by_forks.Goals as goal

pub returns-in_err-begin-clause-exact : goal.returns-in_err-begin-clause-exact
returns-in_err-begin-clause-exact g c = λ m e.
    with_err {T = Unit {0}} (λ r. ChecksAll (layout c.args.geo.now) (m Image) None c.args.tally.now c.args.tally.now r) c.in_err-begin.field-0.0 c.from_residual.result c.from_residual.ensures
    (full_phase (opened_state (layout c.args.geo.now) (m Image)) (lacks_inodes None) (Unit {0}) (Unit {0}) c.args.geo.now.agcount c.args.tally.now c.in_err-begin.field-0.0 c.args.geo.now.fitting.some_groups c.in_err-begin.ensures)

pub returns-in_err-begin-clause-added : goal.returns-in_err-begin-clause-added
returns-in_err-begin-clause-added g c =
    with_err {T = Unit {0}} (λ r. AddsPart (AreParts IsMappingPart c.args.geo.now.agcount) c.args.tally.now c.args.tally.now r) c.in_err-begin.field-0.0 c.from_residual.result c.from_residual.ensures
    (mappings_full (Unit {0}) c.args.geo.now.agcount c.args.tally.now c.in_err-begin.field-0.0 c.args.geo.now.fitting.some_groups c.in_err-begin.ensures)

pub returns-in_err-begin-clause-kept : goal.returns-in_err-begin-clause-kept
returns-in_err-begin-clause-kept g c =
    with_err {T = Unit {0}} (λ r. KeepsAll (layout c.args.geo.now) (g.D.Device.content c.args.dev.now) None c.args.tally.now c.args.steps.now.reads c.args.tally.now c.args.steps.now.reads r) c.in_err-begin.field-0.0 c.from_residual.result c.from_residual.ensures
    (λ m e. none_begun (all_kept (layout c.args.geo.now) None (m Image)) (come c.args.tally.now c.args.steps.now.reads))

pub returns-in_err-forks-clause-exact : goal.returns-in_err-forks-clause-exact
returns-in_err-forks-clause-exact g c = λ m e.
    with_err {T = Unit {0}} (λ r. ChecksAll (layout c.args.geo.now) (m Image) None c.args.tally.now c.args.tally.now r) c.in_err-forks.field-0.0 c.from_residual-in_err-forks.result c.from_residual-in_err-forks.ensures
    (cut_phase (opened_state (layout c.args.geo.now) (m Image)) (lacks_inodes None) (Unit {0}) c.args.geo.now.agcount c.args.tally.now c.in_err-forks.field-0.0 c.args.geo.now.fitting.some_groups c.in_ok-begin.ensures c.in_err-forks.ensures.outside)

pub returns-in-GaveUp-clause-exact : goal.returns-in-GaveUp-clause-exact
returns-in-GaveUp-clause-exact g c = λ m e.
    let a = opened_state (layout c.args.geo.now) (m Image) in
    of_whole a Mappings (lacks_inodes None) c.whole.result c.args.geo.now.agcount c.args.tally.now c.give_up_part.new.tally c.give_up_part.result c.whole.ensures.from c.whole.ensures.to
    (c.give_up_part.ensures.exact a (subst (λ (seen : ForksSeen). AreForksOf a seen) c.in-GaveUp.is (c.in_ok-forks.ensures.exact m e (c.requires.chunks m e) (c.requires.notes m e))))

pub check_by_sets-requires-clause-heads : goal.check_by_sets-requires-clause-heads
check_by_sets-requires-clause-heads g c = λ m e. c.requires.heads m (sym c.in_ok-forks.ensures.reading.same ∙ e)

pub check_by_sets-requires-clause-inodes : goal.check_by_sets-requires-clause-inodes
check_by_sets-requires-clause-inodes g c = c.in_ok-forks.ensures.all ∙ c.requires.inodes

pub check_by_sets-requires-clause-inside : goal.check_by_sets-requires-clause-inside
check_by_sets-requires-clause-inside g c = still_inside c.args.inodes.now c.forks_of.new.inodes c.in_ok-forks.ensures.units (layout c.args.geo.now) c.requires.inside

pub check_by_sets-requires-clause-sets : goal.check_by_sets-requires-clause-sets
check_by_sets-requires-clause-sets g c = subst (HasSets c.args.geo.now.agcount) c.in-Claims.is c.in_ok-forks.ensures.groups

pub check_by_sets-requires-clause-ready : goal.check_by_sets-requires-clause-ready
check_by_sets-requires-clause-ready g c = λ m e.
    let old = sym c.in_ok-forks.ensures.reading.same ∙ e in
    let a = opened_state (layout c.args.geo.now) (m Image) in
    are_ready (layout c.args.geo.now) (m Image) c.forks_of.new.inodes c.in-Claims.sets.items (still_chunks c.args.inodes.now c.forks_of.new.inodes c.in_ok-forks.ensures.units (layout c.args.geo.now) (m Image) (c.requires.chunks m old)) (subst (λ (seen : ForksSeen). AreForksOf a seen) c.in-Claims.is (c.in_ok-forks.ensures.exact m old (c.requires.chunks m old) (c.requires.notes m old)))

pub returns-in-Claims-clause-exact : goal.returns-in-Claims-clause-exact
returns-in-Claims-clause-exact g c = λ m e. c.check_by_sets.ensures.exact m (c.in_ok-forks.ensures.reading.same ∙ e)

pub returns-in-Claims-clause-reading : goal.returns-in-Claims-clause-reading
returns-in-Claims-clause-reading g c =
    read_on g.D.Device g.met.D.Device.only_now g.met.D.Device.counts_now c.args.dev.now c.forks_of.new.dev c.check_by_sets.new.dev c.args.steps.now c.forks_of.new.steps c.check_by_sets.new.steps c.in_ok-forks.ensures.reading c.check_by_sets.ensures.reading

pub returns-in_err-forks-clause-added : goal.returns-in_err-forks-clause-added
returns-in_err-forks-clause-added g c =
    with_err {T = Unit {0}} (λ r. AddsPart (AreParts IsMappingPart c.args.geo.now.agcount) c.args.tally.now c.args.tally.now r) c.in_err-forks.field-0.0 c.from_residual-in_err-forks.result c.from_residual-in_err-forks.ensures
    (mappings_cut c.args.geo.now.agcount c.args.tally.now c.in_err-forks.field-0.0 c.args.geo.now.fitting.some_groups c.in_ok-begin.ensures c.in_err-forks.ensures.outside)

pub returns-in-GaveUp-clause-added : goal.returns-in-GaveUp-clause-added
returns-in-GaveUp-clause-added g c = of_all IsMappingPart c.whole.result c.args.geo.now.agcount c.args.tally.now c.give_up_part.new.tally c.give_up_part.result c.whole.ensures.from c.whole.ensures.to c.give_up_part.ensures.added

pub returns-in_err-forks-clause-kept : goal.returns-in_err-forks-clause-kept
returns-in_err-forks-clause-kept g c =
    with_err {T = Unit {0}} (λ r. KeepsAll (layout c.args.geo.now) (g.D.Device.content c.args.dev.now) None c.args.tally.now c.args.steps.now.reads c.args.tally.now c.forks_of.new.steps.reads r) c.in_err-forks.field-0.0 c.from_residual-in_err-forks.result c.from_residual-in_err-forks.ensures
    (λ m e.
    let before = forks_read (layout c.args.geo.now) (m Image) c.args.inodes.now c.args.steps.now.reads c.forks_of.new.steps.reads (c.requires.chunks m e) (c.requires.notes m e) (c.in_err-forks.ensures.counted m e) in
    phase_cut (layout c.args.geo.now) (m Image) (lacks_inodes None) c.args.geo.now.agcount c.args.tally.now c.args.steps.now.reads c.forks_of.new.steps.reads c.args.geo.now.fitting.some_groups c.in_ok-begin.ensures before)

pub returns-in-GaveUp-clause-kept : goal.returns-in-GaveUp-clause-kept
returns-in-GaveUp-clause-kept g c = λ m e.
    let before = forks_read (layout c.args.geo.now) (m Image) c.args.inodes.now c.args.steps.now.reads c.forks_of.new.steps.reads (c.requires.chunks m e) (c.requires.notes m e) (c.in_ok-forks.ensures.counted m e) in
    let a = opened_state (layout c.args.geo.now) (m Image) in
    let all = of_whole a Mappings lacks_nothing c.whole.result c.args.geo.now.agcount c.args.tally.now c.give_up_part.new.tally c.give_up_part.result c.whole.ensures.from c.whole.ensures.to
    (c.give_up_part.ensures.exact a (subst (λ (seen : ForksSeen). AreForksOf a seen) c.in-GaveUp.is (c.in_ok-forks.ensures.exact m e (c.requires.chunks m e) (c.requires.notes m e)))) in
    all_behind (layout c.args.geo.now) (m Image) c.args.tally.now c.give_up_part.new.tally c.args.steps.now.reads c.forks_of.new.steps.reads c.forks_of.new.steps.reads c.give_up_part.result c.args.geo.now.fitting.some_groups c.in_ok-begin.ensures before
    (unread (phase_events a Mappings lacks_nothing 0 c.args.geo.now.agcount) (mappings_kept (layout c.args.geo.now) 0 c.args.geo.now.agcount (m Image)) (phase_passes a Mappings lacks_nothing 0 c.args.geo.now.agcount) c.args.tally.now c.give_up_part.new.tally c.forks_of.new.steps.reads c.give_up_part.result (phase_alike (trees_only (layout c.args.geo.now) (m Image)) a lacks_nothing Mappings 0 c.args.geo.now.agcount) all)

pub returns-in-Claims-clause-kept : goal.returns-in-Claims-clause-kept
returns-in-Claims-clause-kept g c = λ m e.
    let before = forks_read (layout c.args.geo.now) (m Image) c.args.inodes.now c.args.steps.now.reads c.forks_of.new.steps.reads (c.requires.chunks m e) (c.requires.notes m e) (c.in_ok-forks.ensures.counted m e) in
    all_behind (layout c.args.geo.now) (m Image) c.args.tally.now c.check_by_sets.new.tally c.args.steps.now.reads c.forks_of.new.steps.reads c.check_by_sets.new.steps.reads c.check_by_sets.result c.args.geo.now.fitting.some_groups c.in_ok-begin.ensures before (c.check_by_sets.ensures.kept m (c.in_ok-forks.ensures.reading.same ∙ e))
