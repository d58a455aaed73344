use Rattle.std.proofs.Common.{◌<◌, ◌∙◌, ap, ℕ, List, length, Option, Some, inl, inr, subst, sym}
use Rattle.std.specs.Prelude.{IfSome}
use Rattle.blk_device.specs.declared.device.Region.TheVariants.{Image}
use Rattle.check_phases.specs.Phases.{Mappings, lacks_inodes}
use Rattle.fork_pass.specs.Passed.{AreChunks, AreNotes, FitInGroups, LieInGroups}
use Rattle.geom.specs.Places.{layout}
use Rattle.inode_pass.specs.declared.note.GroupInodes.{GroupInodes}
use Rattle.inode_pass.specs.Units.{opened_state}
use Rattle.image_check.proofs.AllLemmas.{of_whole}
use Rattle.image_check.proofs.FallenLemmas.{all_pass}
use Rattle.image_check.proofs.InodesLemmas.{are_chunks, are_notes}
use Rattle.image_check.specs.Checked.{ChecksAll}
use Rattle.check_phases.proofs.AddedLemmas.{as_added, of_all}
use Rattle.check_phases.specs.Parts.{AreParts}
use Rattle.fs_state.specs.Session.{Place}
use Rattle.fs_model.specs.declared.unit.Unit.TheVariants as units
use Rattle.image_check.specs.Units.{AreMappings, IsMappingPart, IsSkippedFor}
use Rattle.check_phases.proofs.KeptToldLemmas.{phase_alike, unread}
use Rattle.check_phases.specs.Phases.{phase_events, phase_passes}
use Rattle.image_check.specs.Kept.{KeepsAll, all_kept}
use Rattle.image_check.specs.Reads.{most_read}
use Rattle.image_check.proofs.image.check_all_mappings.Goals as goal

pub returns-in-Some-clause-exact : goal.returns-in-Some-clause-exact
returns-in-Some-clause-exact g c = λ m e.
    subst (λ (o : Option ℕ). ChecksAll (layout c.args.geo.now) (m Image) o c.args.tally.now c.skip_part.new.tally c.skip_part.result) (sym c.in-Some.is)
    (of_whole (opened_state (layout c.args.geo.now) (m Image)) Mappings (lacks_inodes (Some c.in-Some.g)) c.whole.result c.args.geo.now.agcount c.args.tally.now c.skip_part.new.tally c.skip_part.result c.whole.ensures.from c.whole.ensures.to (c.skip_part.ensures.exact (opened_state (layout c.args.geo.now) (m Image))))

pub check_by_forks-requires-clause-inodes : goal.check_by_forks-requires-clause-inodes
check_by_forks-requires-clause-inodes g c = ap (λ (x : List GroupInodes). length x) c.deref_mut.ensures.value ∙ c.requires.inodes

pub check_by_forks-requires-clause-inside : goal.check_by_forks-requires-clause-inside
check_by_forks-requires-clause-inside g c = subst (LieInGroups (layout c.args.geo.now)) (sym c.deref_mut.ensures.value) c.requires.inside

pub check_by_forks-requires-clause-fit : goal.check_by_forks-requires-clause-fit
check_by_forks-requires-clause-fit g c = subst (FitInGroups (layout c.args.geo.now)) (sym c.deref_mut.ensures.value) c.requires.fit

pub check_by_forks-requires-clause-chunks : goal.check_by_forks-requires-clause-chunks
check_by_forks-requires-clause-chunks g c = λ m e.
    subst (λ (x : List GroupInodes). AreChunks (opened_state (layout c.args.geo.now) (m Image)) x) (sym c.deref_mut.ensures.value)
    (are_chunks (layout c.args.geo.now) (m Image) c.args.inodes.items (c.requires.kept m e) (all_pass (layout c.args.geo.now) (m Image) (sym (c.requires.first m e) ∙ c.in-None.is)))

pub check_by_forks-requires-clause-notes : goal.check_by_forks-requires-clause-notes
check_by_forks-requires-clause-notes g c = λ m e.
    subst (λ (x : List GroupInodes). AreNotes (layout c.args.geo.now) (m Image) x) (sym c.deref_mut.ensures.value)
    (are_notes (layout c.args.geo.now) (m Image) c.args.inodes.items (c.requires.kept m e) (all_pass (layout c.args.geo.now) (m Image) (sym (c.requires.first m e) ∙ c.in-None.is)))

pub returns-clause-exact : goal.returns-clause-exact
returns-clause-exact g c = λ m e.
    subst (λ (o : Option ℕ). ChecksAll (layout c.args.geo.now) (m Image) o c.args.tally.now c.check_by_forks.new.tally c.check_by_forks.result) (sym c.in-None.is) (c.check_by_forks.ensures.exact m e)

pub returns-in-Some-clause-added : goal.returns-in-Some-clause-added
returns-in-Some-clause-added g c =
    let n = c.args.geo.now.agcount in
    let needed : Place = (c.in-Some.g, units.Inode) in
    let below = subst (λ (o : Option ℕ). IfSome o (λ h. h < n)) c.in-Some.is c.requires.below in
    as_added (AreParts (IsSkippedFor needed) n) (AreMappings n) c.args.tally.now c.skip_part.new.tally c.skip_part.result (λ es p. inr (c.in-Some.g, below, p))
    (of_all (IsSkippedFor needed) c.whole.result n c.args.tally.now c.skip_part.new.tally c.skip_part.result c.whole.ensures.from c.whole.ensures.to c.skip_part.ensures.added)

pub returns-clause-added : goal.returns-clause-added
returns-clause-added g c =
    let n = c.args.geo.now.agcount in
    as_added (AreParts IsMappingPart n) (AreMappings n) c.args.tally.now c.check_by_forks.new.tally c.check_by_forks.result (λ es p. inl p) c.check_by_forks.ensures.added

pub returns-in-Some-clause-kept : goal.returns-in-Some-clause-kept
returns-in-Some-clause-kept g c =
    let lacks = lacks_inodes (Some c.in-Some.g) in
    subst (λ (o : Option ℕ). KeepsAll (layout c.args.geo.now) (g.D.Device.content c.args.dev.now) o c.args.tally.now c.args.steps.now.reads c.skip_part.new.tally c.args.steps.now.reads c.skip_part.result) (sym c.in-Some.is)
    (λ m e.
    let a = opened_state (layout c.args.geo.now) (m Image) in
    unread (phase_events a Mappings lacks 0 c.args.geo.now.agcount) (all_kept (layout c.args.geo.now) (Some c.in-Some.g) (m Image)) (phase_passes a Mappings lacks 0 c.args.geo.now.agcount) c.args.tally.now c.skip_part.new.tally c.args.steps.now.reads c.skip_part.result (phase_alike (most_read (layout c.args.geo.now) (m Image)) a lacks Mappings 0 c.args.geo.now.agcount)
    (of_whole a Mappings lacks c.whole.result c.args.geo.now.agcount c.args.tally.now c.skip_part.new.tally c.skip_part.result c.whole.ensures.from c.whole.ensures.to (c.skip_part.ensures.exact a)))

pub returns-clause-kept : goal.returns-clause-kept
returns-clause-kept g c =
    subst (λ (o : Option ℕ). KeepsAll (layout c.args.geo.now) (g.D.Device.content c.args.dev.now) o c.args.tally.now c.args.steps.now.reads c.check_by_forks.new.tally c.check_by_forks.new.steps.reads c.check_by_forks.result) (sym c.in-None.is) c.check_by_forks.ensures.kept
