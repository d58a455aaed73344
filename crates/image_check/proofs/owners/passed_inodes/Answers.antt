use Rattle.std.proofs.Common.{◌≡◌, ◌∙◌, ◌++◌, ap, sym, Bool, List, Ok, Option, Some, None, ℕ}
use Rattle.blk_device.specs.declared.device.Region.TheVariants.{Image}
use Rattle.check_phases.specs.Phases.{Inodes, lacks_nothing, phase_passes}
use Rattle.check_phases.specs.Session.{inode_fallen}
use Rattle.geom.specs.Places.{layout}
use Rattle.image_check.proofs.AllLemmas.{fallen_said, of_whole}
use Rattle.image_check.proofs.FallenLemmas.{all_pass, some_none}
use Rattle.image_check.proofs.InodesLemmas.{are_chunks, are_notes, kept_fit, kept_of, one_each}
use Rattle.inode_pass.specs.Units.{opened_state}
use Rattle.image_check.proofs.owners.passed_inodes.Goals as goal

pub returns-in-Some-clause-none : goal.returns-in-Some-clause-none
returns-in-Some-clause-none g c = λ is m e none.
    let a = opened_state (layout c.args.geo.now) (m Image) in
    let done = of_whole {T = Unit {0}} a Inodes lacks_nothing c.whole.result c.args.geo.now.agcount c.new-tally.result c.check_inode_part.new.tally (Ok tt) c.whole.ensures.from c.whole.ensures.to (c.in_ok-check_inode_part.ensures.exact m e) in
    let first = fallen_said (layout c.args.geo.now) (m Image) c.as_slice.result.now c.first_fallen.result
    (c.as_slice.ensures.value ∙ c.take_passed-judged.ensures.taken ∙ c.take_inodes-inodes.ensures.passed ∙ done.1 ∙ ap (λ (bs : List Bool). bs ++ phase_passes a Inodes lacks_nothing 0 c.args.geo.now.agcount) c.new-tally.ensures.passed)
    c.first_fallen.ensures in
    some_none c.in-Some.field-0 (sym c.in-Some.is ∙ first ∙ none)

pub returns-clause-all : goal.returns-clause-all
returns-clause-all g c = one_each (layout c.args.geo.now) (g.D.Device.content c.args.dev.now) c.whole.result c.new-tally.result.inodes.items c.check_inode_part.new.tally.inodes.items c.take_inodes-inodes.result.items c.whole.ensures.from c.whole.ensures.to c.new-tally.ensures.inodes c.take_inodes-inodes.ensures.taken c.in_ok-check_inode_part.ensures.inodes

pub returns-clause-fit : goal.returns-clause-fit
returns-clause-fit g c = kept_fit (layout c.args.geo.now) (g.D.Device.content c.args.dev.now) c.whole.result c.new-tally.result.inodes.items c.check_inode_part.new.tally.inodes.items c.take_inodes-inodes.result.items c.whole.ensures.from c.whole.ensures.to c.new-tally.ensures.inodes c.take_inodes-inodes.ensures.taken c.in_ok-check_inode_part.ensures.inodes

pub returns-clause-chunks : goal.returns-clause-chunks
returns-clause-chunks g c = λ m e.
    let a = opened_state (layout c.args.geo.now) (m Image) in
    let done = of_whole {T = Unit {0}} a Inodes lacks_nothing c.whole.result c.args.geo.now.agcount c.new-tally.result c.check_inode_part.new.tally (Ok tt) c.whole.ensures.from c.whole.ensures.to (c.in_ok-check_inode_part.ensures.exact m e) in
    let first = fallen_said (layout c.args.geo.now) (m Image) c.as_slice.result.now c.first_fallen.result
    (c.as_slice.ensures.value ∙ c.take_passed-judged.ensures.taken ∙ c.take_inodes-inodes.ensures.passed ∙ done.1 ∙ ap (λ (bs : List Bool). bs ++ phase_passes a Inodes lacks_nothing 0 c.args.geo.now.agcount) c.new-tally.ensures.passed)
    c.first_fallen.ensures in
    are_chunks (layout c.args.geo.now) (m Image) c.take_inodes-inodes.result.items
    (kept_of (layout c.args.geo.now) (g.D.Device.content c.args.dev.now) c.whole.result c.new-tally.result.inodes.items c.check_inode_part.new.tally.inodes.items c.take_inodes-inodes.result.items c.whole.ensures.from c.whole.ensures.to c.new-tally.ensures.inodes c.take_inodes-inodes.ensures.taken c.in_ok-check_inode_part.ensures.inodes m e)
    (all_pass (layout c.args.geo.now) (m Image) (sym first ∙ c.in-None.is))

pub returns-clause-notes : goal.returns-clause-notes
returns-clause-notes g c = λ m e.
    let a = opened_state (layout c.args.geo.now) (m Image) in
    let done = of_whole {T = Unit {0}} a Inodes lacks_nothing c.whole.result c.args.geo.now.agcount c.new-tally.result c.check_inode_part.new.tally (Ok tt) c.whole.ensures.from c.whole.ensures.to (c.in_ok-check_inode_part.ensures.exact m e) in
    let first = fallen_said (layout c.args.geo.now) (m Image) c.as_slice.result.now c.first_fallen.result
    (c.as_slice.ensures.value ∙ c.take_passed-judged.ensures.taken ∙ c.take_inodes-inodes.ensures.passed ∙ done.1 ∙ ap (λ (bs : List Bool). bs ++ phase_passes a Inodes lacks_nothing 0 c.args.geo.now.agcount) c.new-tally.ensures.passed)
    c.first_fallen.ensures in
    are_notes (layout c.args.geo.now) (m Image) c.take_inodes-inodes.result.items
    (kept_of (layout c.args.geo.now) (g.D.Device.content c.args.dev.now) c.whole.result c.new-tally.result.inodes.items c.check_inode_part.new.tally.inodes.items c.take_inodes-inodes.result.items c.whole.ensures.from c.whole.ensures.to c.new-tally.ensures.inodes c.take_inodes-inodes.ensures.taken c.in_ok-check_inode_part.ensures.inodes m e)
    (all_pass (layout c.args.geo.now) (m Image) (sym first ∙ c.in-None.is))
