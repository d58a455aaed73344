use Rattle.std.proofs.Common.{◌∙◌, ◌++◌, List, Bool, Err, Ok, ap, sym}
use Rattle.blk_device.specs.ReadingLaws.{read_on}
use Rattle.blk_device.specs.declared.device.Region.TheVariants.{Image}
use Rattle.check_phases.specs.Phases.{Inodes, Space, lacks_mappings, lacks_nothing, phase_passes}
use Rattle.geom.specs.Places.{layout}
use Rattle.inode_pass.specs.Units.{opened_state}
use Rattle.space_check.proofs.EventLemmas.{with_err}
use Rattle.image_check.proofs.AllLemmas.{fallen_said, of_whole}
use Rattle.image_check.proofs.EndLemmas.{inodes_end, mappings_end, passed_said, readable_then, units_end}
use Rattle.image_check.specs.Checked.{ChecksUnits}
use Rattle.check_phases.proofs.AddedLemmas.{from_same, of_all}
use Rattle.check_phases.specs.Parts.{AreParts, IsInodePart, IsSpacePart}
use Rattle.image_check.proofs.InodesLemmas.{kept_fit, kept_inside, kept_of, one_each}
use Rattle.image_check.proofs.UnitsLemmas.{ends_in_units, fallen_below, inodes_stop, mappings_added, mappings_stop, space_added}
use Rattle.image_check.specs.Units.{AreMappings, EndsInUnits}
use Rattle.check_phases.specs.Kept.{come}
use Rattle.image_check.proofs.KeptUnitsLemmas as kept
use Rattle.image_check.specs.Kept.{KeepsUnits, all_kept}
use Rattle.image_check.proofs.image.check_units.Goals as goal

pub returns-in_err-check_inode_part-clause-exact : goal.returns-in_err-check_inode_part-clause-exact
returns-in_err-check_inode_part-clause-exact g c = λ m e.
    with_err {T = Unit {0}} (λ r. ChecksUnits (layout c.args.geo.now) (m Image) c.args.tally.now c.check_inode_part.new.tally r) c.in_err-check_inode_part.field-0.0 c.from_residual.result c.from_residual.ensures
    (inodes_end (layout c.args.geo.now) (m Image) c.phases_are_session.ensures c.args.tally.now c.check_inode_part.new.tally c.in_err-check_inode_part.field-0.0
    (of_whole {T = Unit {0}} (opened_state (layout c.args.geo.now) (m Image)) Inodes lacks_nothing c.whole.result c.args.geo.now.agcount c.args.tally.now c.check_inode_part.new.tally (Err c.in_err-check_inode_part.field-0.0) c.whole.ensures.from c.whole.ensures.to (c.in_err-check_inode_part.ensures.exact m e)))

pub check_all_mappings-requires-clause-heads : goal.check_all_mappings-requires-clause-heads
check_all_mappings-requires-clause-heads g c = λ m e. c.requires.heads m (sym c.in_ok-check_inode_part.ensures.reading.same ∙ e)

pub check_all_mappings-requires-clause-first : goal.check_all_mappings-requires-clause-first
check_all_mappings-requires-clause-first g c = λ m e.
    let a = opened_state (layout c.args.geo.now) (m Image) in
    let done = of_whole {T = Unit {0}} a Inodes lacks_nothing c.whole.result c.args.geo.now.agcount c.args.tally.now c.check_inode_part.new.tally (Ok tt) c.whole.ensures.from c.whole.ensures.to (c.in_ok-check_inode_part.ensures.exact m (sym c.in_ok-check_inode_part.ensures.reading.same ∙ e)) in
    fallen_said (layout c.args.geo.now) (m Image) c.as_slice.result.now c.first_fallen-fallen.result
    (c.as_slice.ensures.value ∙ c.take_passed-judged.ensures.taken ∙ c.take_inodes-inodes.ensures.passed ∙ done.1 ∙ ap (λ (bs : List Bool). bs ++ phase_passes a Inodes lacks_nothing 0 c.args.geo.now.agcount) c.requires.begun)
    c.first_fallen-fallen.ensures

pub check_all_mappings-requires-clause-inodes : goal.check_all_mappings-requires-clause-inodes
check_all_mappings-requires-clause-inodes g c = one_each (layout c.args.geo.now) (g.D.Device.content c.args.dev.now) c.whole.result c.args.tally.now.inodes.items c.check_inode_part.new.tally.inodes.items c.take_inodes-inodes.result.items c.whole.ensures.from c.whole.ensures.to c.requires.fresh c.take_inodes-inodes.ensures.taken c.in_ok-check_inode_part.ensures.inodes

pub check_all_mappings-requires-clause-inside : goal.check_all_mappings-requires-clause-inside
check_all_mappings-requires-clause-inside g c = kept_inside (layout c.args.geo.now) (g.D.Device.content c.args.dev.now) c.whole.result c.args.tally.now.inodes.items c.check_inode_part.new.tally.inodes.items c.take_inodes-inodes.result.items c.whole.ensures.from c.whole.ensures.to c.requires.fresh c.take_inodes-inodes.ensures.taken c.in_ok-check_inode_part.ensures.inodes

pub check_all_mappings-requires-clause-fit : goal.check_all_mappings-requires-clause-fit
check_all_mappings-requires-clause-fit g c = kept_fit (layout c.args.geo.now) (g.D.Device.content c.args.dev.now) c.whole.result c.args.tally.now.inodes.items c.check_inode_part.new.tally.inodes.items c.take_inodes-inodes.result.items c.whole.ensures.from c.whole.ensures.to c.requires.fresh c.take_inodes-inodes.ensures.taken c.in_ok-check_inode_part.ensures.inodes

pub check_all_mappings-requires-clause-kept : goal.check_all_mappings-requires-clause-kept
check_all_mappings-requires-clause-kept g c = λ m e. kept_of (layout c.args.geo.now) (g.D.Device.content c.args.dev.now) c.whole.result c.args.tally.now.inodes.items c.check_inode_part.new.tally.inodes.items c.take_inodes-inodes.result.items c.whole.ensures.from c.whole.ensures.to c.requires.fresh c.take_inodes-inodes.ensures.taken c.in_ok-check_inode_part.ensures.inodes m (sym c.in_ok-check_inode_part.ensures.reading.same ∙ e)

pub returns-in_err-check_all_mappings-clause-exact : goal.returns-in_err-check_all_mappings-clause-exact
returns-in_err-check_all_mappings-clause-exact g c = λ m e.
    let a = opened_state (layout c.args.geo.now) (m Image) in
    let now = c.in_ok-check_inode_part.ensures.reading.same ∙ e in
    let done = of_whole {T = Unit {0}} a Inodes lacks_nothing c.whole.result c.args.geo.now.agcount c.args.tally.now c.check_inode_part.new.tally (Ok tt) c.whole.ensures.from c.whole.ensures.to (c.in_ok-check_inode_part.ensures.exact m e) in
    let first = fallen_said (layout c.args.geo.now) (m Image) c.as_slice.result.now c.first_fallen-fallen.result
    (c.as_slice.ensures.value ∙ c.take_passed-judged.ensures.taken ∙ c.take_inodes-inodes.ensures.passed ∙ done.1 ∙ ap (λ (bs : List Bool). bs ++ phase_passes a Inodes lacks_nothing 0 c.args.geo.now.agcount) c.requires.begun)
    c.first_fallen-fallen.ensures in
    with_err {T = Unit {0}} (λ r. ChecksUnits (layout c.args.geo.now) (m Image) c.args.tally.now c.check_all_mappings.new.tally r) c.in_err-check_all_mappings.field-0.0 c.from_residual-in_err-check_all_mappings.result c.from_residual-in_err-check_all_mappings.ensures
    (mappings_end (layout c.args.geo.now) (m Image) c.phases_are_session.ensures c.args.tally.now c.check_inode_part.new.tally c.take_passed-judged.new.tally c.check_all_mappings.new.tally c.first_fallen-fallen.result c.in_err-check_all_mappings.field-0.0 done.0 (c.take_passed-judged.ensures.journal ∙ c.take_inodes-inodes.ensures.journal) first (c.in_err-check_all_mappings.ensures.exact m now))

pub returns-in_err-check_all_mappings-clause-reading : goal.returns-in_err-check_all_mappings-clause-reading
returns-in_err-check_all_mappings-clause-reading g c =
    read_on g.D.Device g.met.D.Device.only_now g.met.D.Device.counts_now c.args.dev.now c.check_inode_part.new.dev c.check_all_mappings.new.dev c.args.steps.now c.check_inode_part.new.steps c.check_all_mappings.new.steps c.in_ok-check_inode_part.ensures.reading c.in_err-check_all_mappings.ensures.reading

pub check_space_part-requires-clause-heads : goal.check_space_part-requires-clause-heads
check_space_part-requires-clause-heads g c = λ m e. c.requires.heads m (sym c.in_ok-check_inode_part.ensures.reading.same ∙ sym c.in_ok-check_all_mappings.ensures.reading.same ∙ e)

pub check_space_part-requires-clause-readable : goal.check_space_part-requires-clause-readable
check_space_part-requires-clause-readable g c = λ m e.
    let a = opened_state (layout c.args.geo.now) (m Image) in
    let mid = sym c.in_ok-check_all_mappings.ensures.reading.same ∙ e in
    let old = sym c.in_ok-check_inode_part.ensures.reading.same ∙ mid in
    let done = of_whole {T = Unit {0}} a Inodes lacks_nothing c.whole.result c.args.geo.now.agcount c.args.tally.now c.check_inode_part.new.tally (Ok tt) c.whole.ensures.from c.whole.ensures.to (c.in_ok-check_inode_part.ensures.exact m old) in
    let first = fallen_said (layout c.args.geo.now) (m Image) c.as_slice.result.now c.first_fallen-fallen.result
    (c.as_slice.ensures.value ∙ c.take_passed-judged.ensures.taken ∙ c.take_inodes-inodes.ensures.passed ∙ done.1 ∙ ap (λ (bs : List Bool). bs ++ phase_passes a Inodes lacks_nothing 0 c.args.geo.now.agcount) c.requires.begun)
    c.first_fallen-fallen.ensures in
    readable_then (layout c.args.geo.now) (m Image) c.passed_can_be_read.ensures c.take_passed-judged.new.tally c.check_all_mappings.new.tally c.first_fallen-fallen.result c.as_slice-passed.result.now c.take_passed-judged.ensures.fresh first (c.in_ok-check_all_mappings.ensures.exact m mid) (c.as_slice-passed.ensures.value ∙ c.take_passed-mappings.ensures.taken)

pub returns-clause-exact : goal.returns-clause-exact
returns-clause-exact g c = λ m e.
    let a = opened_state (layout c.args.geo.now) (m Image) in
    let mid = c.in_ok-check_inode_part.ensures.reading.same ∙ e in
    let last = c.in_ok-check_all_mappings.ensures.reading.same ∙ mid in
    let done = of_whole {T = Unit {0}} a Inodes lacks_nothing c.whole.result c.args.geo.now.agcount c.args.tally.now c.check_inode_part.new.tally (Ok tt) c.whole.ensures.from c.whole.ensures.to (c.in_ok-check_inode_part.ensures.exact m e) in
    let first = fallen_said (layout c.args.geo.now) (m Image) c.as_slice.result.now c.first_fallen-fallen.result
    (c.as_slice.ensures.value ∙ c.take_passed-judged.ensures.taken ∙ c.take_inodes-inodes.ensures.passed ∙ done.1 ∙ ap (λ (bs : List Bool). bs ++ phase_passes a Inodes lacks_nothing 0 c.args.geo.now.agcount) c.requires.begun)
    c.first_fallen-fallen.ensures in
    units_end (layout c.args.geo.now) (m Image) c.phases_are_session.ensures c.args.tally.now c.check_inode_part.new.tally c.take_passed-judged.new.tally c.check_all_mappings.new.tally c.take_passed-mappings.new.tally c.check_space_part.new.tally c.first_fallen-fallen.result c.as_slice-passed.result.now c.check_space_part.result
    done.0 (c.take_passed-judged.ensures.journal ∙ c.take_inodes-inodes.ensures.journal) c.take_passed-judged.ensures.fresh first (c.in_ok-check_all_mappings.ensures.exact m mid) c.take_passed-mappings.ensures.journal (c.as_slice-passed.ensures.value ∙ c.take_passed-mappings.ensures.taken)
    (of_whole a Space (lacks_mappings c.as_slice-passed.result.now) c.whole-2.result c.args.geo.now.agcount c.take_passed-mappings.new.tally c.check_space_part.new.tally c.check_space_part.result c.whole-2.ensures.from c.whole-2.ensures.to (c.check_space_part.ensures.exact m last))

pub returns-clause-reading : goal.returns-clause-reading
returns-clause-reading g c =
    let both = read_on g.D.Device g.met.D.Device.only_now g.met.D.Device.counts_now c.args.dev.now c.check_inode_part.new.dev c.check_all_mappings.new.dev c.args.steps.now c.check_inode_part.new.steps c.check_all_mappings.new.steps c.in_ok-check_inode_part.ensures.reading c.in_ok-check_all_mappings.ensures.reading in
    read_on g.D.Device g.met.D.Device.only_now g.met.D.Device.counts_now c.args.dev.now c.check_all_mappings.new.dev c.check_space_part.new.dev c.args.steps.now c.check_all_mappings.new.steps c.check_space_part.new.steps both c.check_space_part.ensures.reading

pub returns-in_err-check_inode_part-clause-session : goal.returns-in_err-check_inode_part-clause-session
returns-in_err-check_inode_part-clause-session g c =
    let n = c.args.geo.now.agcount in
    let inodes = of_all {T = Unit {0}} IsInodePart c.whole.result n c.args.tally.now c.check_inode_part.new.tally (Err c.in_err-check_inode_part.field-0.0) c.whole.ensures.from c.whole.ensures.to c.in_err-check_inode_part.ensures.added in
    with_err {T = Unit {0}} (λ r. EndsInUnits n c.args.tally.now.journal.entries.items c.check_inode_part.new.tally.journal.entries.items r) c.in_err-check_inode_part.field-0.0 c.from_residual.result c.from_residual.ensures
    (ends_in_units n {T = Unit {0}} c.args.tally.now c.check_inode_part.new.tally (Err c.in_err-check_inode_part.field-0.0)
    (inodes_stop n (Unit {0}) (Unit {0}) c.args.tally.now c.check_inode_part.new.tally c.in_err-check_inode_part.field-0.0 inodes))

pub check_all_mappings-requires-clause-below : goal.check_all_mappings-requires-clause-below
check_all_mappings-requires-clause-below g c = fallen_below c.as_slice.result.now c.args.geo.now.agcount c.first_fallen-fallen.result c.first_fallen-fallen.ensures

pub returns-in_err-check_all_mappings-clause-session : goal.returns-in_err-check_all_mappings-clause-session
returns-in_err-check_all_mappings-clause-session g c =
    let n = c.args.geo.now.agcount in
    let halt = c.in_err-check_all_mappings.field-0.0 in
    let inodes = of_all {T = Unit {0}} IsInodePart c.whole.result n c.args.tally.now c.check_inode_part.new.tally (Ok tt) c.whole.ensures.from c.whole.ensures.to c.in_ok-check_inode_part.ensures.added in
    let mappings = from_same {T = Unit {0}} (AreMappings n) c.check_inode_part.new.tally c.take_passed-judged.new.tally c.check_all_mappings.new.tally (Err halt) (c.take_passed-judged.ensures.journal ∙ c.take_inodes-inodes.ensures.journal) c.in_err-check_all_mappings.ensures.added in
    with_err {T = Unit {0}} (λ r. EndsInUnits n c.args.tally.now.journal.entries.items c.check_all_mappings.new.tally.journal.entries.items r) halt c.from_residual-in_err-check_all_mappings.result c.from_residual-in_err-check_all_mappings.ensures
    (ends_in_units n {T = Unit {0}} c.args.tally.now c.check_all_mappings.new.tally (Err halt)
    (mappings_stop n (Unit {0}) (Unit {0}) c.args.tally.now c.check_all_mappings.new.tally halt
    (mappings_added n {S = Unit {0}} {T = Unit {0}} c.args.tally.now c.check_inode_part.new.tally c.check_all_mappings.new.tally tt (Err halt) inodes mappings)))

pub returns-clause-session : goal.returns-clause-session
returns-clause-session g c =
    let n = c.args.geo.now.agcount in
    let inodes = of_all {T = Unit {0}} IsInodePart c.whole.result n c.args.tally.now c.check_inode_part.new.tally (Ok tt) c.whole.ensures.from c.whole.ensures.to c.in_ok-check_inode_part.ensures.added in
    let mappings = from_same {T = Unit {0}} (AreMappings n) c.check_inode_part.new.tally c.take_passed-judged.new.tally c.check_all_mappings.new.tally (Ok tt) (c.take_passed-judged.ensures.journal ∙ c.take_inodes-inodes.ensures.journal) c.in_ok-check_all_mappings.ensures.added in
    let both = mappings_added n {S = Unit {0}} {T = Unit {0}} c.args.tally.now c.check_inode_part.new.tally c.check_all_mappings.new.tally tt (Ok tt) inodes mappings in
    let space = of_all IsSpacePart c.whole-2.result n c.take_passed-mappings.new.tally c.check_space_part.new.tally c.check_space_part.result c.whole-2.ensures.from c.whole-2.ensures.to c.check_space_part.ensures.added in
    let last = from_same (AreParts IsSpacePart n) c.check_all_mappings.new.tally c.take_passed-mappings.new.tally c.check_space_part.new.tally c.check_space_part.result c.take_passed-mappings.ensures.journal space in
    ends_in_units n c.args.tally.now c.check_space_part.new.tally c.check_space_part.result
    (space_added n {S = Unit {0}} c.args.tally.now c.check_all_mappings.new.tally c.check_space_part.new.tally tt c.check_space_part.result both last)

pub returns-in_err-check_inode_part-clause-kept : goal.returns-in_err-check_inode_part-clause-kept
returns-in_err-check_inode_part-clause-kept g c =
    with_err {T = Unit {0}} (λ r. KeepsUnits (layout c.args.geo.now) (g.D.Device.content c.args.dev.now) c.args.tally.now c.args.steps.now.reads c.check_inode_part.new.tally c.check_inode_part.new.steps.reads r) c.in_err-check_inode_part.field-0.0 c.from_residual.result c.from_residual.ensures
    (λ m e.
    kept.inodes_stop (layout c.args.geo.now) (m Image) (come c.args.tally.now c.args.steps.now.reads) (come c.check_inode_part.new.tally c.check_inode_part.new.steps.reads) (kept.inodes_of_whole {T = Unit {0}} (layout c.args.geo.now) (m Image) c.whole.result c.args.geo.now.agcount (come c.args.tally.now c.args.steps.now.reads) (come c.check_inode_part.new.tally c.check_inode_part.new.steps.reads) (Err c.in_err-check_inode_part.field-0.0) c.whole.ensures.from c.whole.ensures.to (c.in_err-check_inode_part.ensures.kept m e)))

pub returns-in_err-check_all_mappings-clause-kept : goal.returns-in_err-check_all_mappings-clause-kept
returns-in_err-check_all_mappings-clause-kept g c =
    with_err {T = Unit {0}} (λ r. KeepsUnits (layout c.args.geo.now) (g.D.Device.content c.args.dev.now) c.args.tally.now c.args.steps.now.reads c.check_all_mappings.new.tally c.check_all_mappings.new.steps.reads r) c.in_err-check_all_mappings.field-0.0 c.from_residual-in_err-check_all_mappings.result c.from_residual-in_err-check_all_mappings.ensures
    (λ m e.
    let a = opened_state (layout c.args.geo.now) (m Image) in
    let done = of_whole {T = Unit {0}} a Inodes lacks_nothing c.whole.result c.args.geo.now.agcount c.args.tally.now c.check_inode_part.new.tally (Ok tt) c.whole.ensures.from c.whole.ensures.to (c.in_ok-check_inode_part.ensures.exact m e) in
    let first = fallen_said (layout c.args.geo.now) (m Image) c.as_slice.result.now c.first_fallen-fallen.result
    (c.as_slice.ensures.value ∙ c.take_passed-judged.ensures.taken ∙ c.take_inodes-inodes.ensures.passed ∙ done.1 ∙ ap (λ (bs : List Bool). bs ++ phase_passes a Inodes lacks_nothing 0 c.args.geo.now.agcount) c.requires.begun)
    c.first_fallen-fallen.ensures in
    kept.mappings_stop (layout c.args.geo.now) (m Image) (come c.args.tally.now c.args.steps.now.reads) (come c.check_inode_part.new.tally c.check_inode_part.new.steps.reads) (come c.check_all_mappings.new.tally c.check_all_mappings.new.steps.reads) c.first_fallen-fallen.result first
    (kept.inodes_of_whole {T = Unit {0}} (layout c.args.geo.now) (m Image) c.whole.result c.args.geo.now.agcount (come c.args.tally.now c.args.steps.now.reads) (come c.check_inode_part.new.tally c.check_inode_part.new.steps.reads) (Ok tt) c.whole.ensures.from c.whole.ensures.to (c.in_ok-check_inode_part.ensures.kept m e))
    (kept.from_same {T = Unit {0}} (all_kept (layout c.args.geo.now) c.first_fallen-fallen.result (m Image)) c.check_inode_part.new.tally c.take_passed-judged.new.tally c.check_inode_part.new.steps.reads (come c.check_all_mappings.new.tally c.check_all_mappings.new.steps.reads) (Err c.in_err-check_all_mappings.field-0.0) (c.take_passed-judged.ensures.journal ∙ c.take_inodes-inodes.ensures.journal) (c.in_err-check_all_mappings.ensures.kept m (c.in_ok-check_inode_part.ensures.reading.same ∙ e))))

pub returns-clause-kept : goal.returns-clause-kept
returns-clause-kept g c = λ m e.
    let a = opened_state (layout c.args.geo.now) (m Image) in
    let mid = c.in_ok-check_inode_part.ensures.reading.same ∙ e in
    let last = c.in_ok-check_all_mappings.ensures.reading.same ∙ mid in
    let done = of_whole {T = Unit {0}} a Inodes lacks_nothing c.whole.result c.args.geo.now.agcount c.args.tally.now c.check_inode_part.new.tally (Ok tt) c.whole.ensures.from c.whole.ensures.to (c.in_ok-check_inode_part.ensures.exact m e) in
    let first = fallen_said (layout c.args.geo.now) (m Image) c.as_slice.result.now c.first_fallen-fallen.result
    (c.as_slice.ensures.value ∙ c.take_passed-judged.ensures.taken ∙ c.take_inodes-inodes.ensures.passed ∙ done.1 ∙ ap (λ (bs : List Bool). bs ++ phase_passes a Inodes lacks_nothing 0 c.args.geo.now.agcount) c.requires.begun)
    c.first_fallen-fallen.ensures in
    let passed = passed_said (layout c.args.geo.now) (m Image) c.take_passed-judged.new.tally c.check_all_mappings.new.tally c.first_fallen-fallen.result c.as_slice-passed.result.now c.take_passed-judged.ensures.fresh first (c.in_ok-check_all_mappings.ensures.exact m mid) (c.as_slice-passed.ensures.value ∙ c.take_passed-mappings.ensures.taken) in
    kept.units_keep (layout c.args.geo.now) (m Image) (come c.args.tally.now c.args.steps.now.reads) (come c.check_inode_part.new.tally c.check_inode_part.new.steps.reads) (come c.check_all_mappings.new.tally c.check_all_mappings.new.steps.reads) (come c.check_space_part.new.tally c.check_space_part.new.steps.reads) c.first_fallen-fallen.result c.as_slice-passed.result.now c.check_space_part.result first passed
    (kept.inodes_of_whole {T = Unit {0}} (layout c.args.geo.now) (m Image) c.whole.result c.args.geo.now.agcount (come c.args.tally.now c.args.steps.now.reads) (come c.check_inode_part.new.tally c.check_inode_part.new.steps.reads) (Ok tt) c.whole.ensures.from c.whole.ensures.to (c.in_ok-check_inode_part.ensures.kept m e))
    (kept.from_same {T = Unit {0}} (all_kept (layout c.args.geo.now) c.first_fallen-fallen.result (m Image)) c.check_inode_part.new.tally c.take_passed-judged.new.tally c.check_inode_part.new.steps.reads (come c.check_all_mappings.new.tally c.check_all_mappings.new.steps.reads) (Ok tt) (c.take_passed-judged.ensures.journal ∙ c.take_inodes-inodes.ensures.journal) (c.in_ok-check_all_mappings.ensures.kept m (c.in_ok-check_inode_part.ensures.reading.same ∙ e)))
    (kept.space_of_whole (layout c.args.geo.now) (m Image) c.as_slice-passed.result.now c.whole-2.result c.args.geo.now.agcount c.check_all_mappings.new.tally c.take_passed-mappings.new.tally c.check_all_mappings.new.steps.reads (come c.check_space_part.new.tally c.check_space_part.new.steps.reads) c.check_space_part.result c.whole-2.ensures.from c.whole-2.ensures.to c.take_passed-mappings.ensures.journal (c.check_space_part.ensures.kept m last))
