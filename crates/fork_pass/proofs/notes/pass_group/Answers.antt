use Rattle.std.proofs.Common.{List, subst, sym, ◌∙◌, ◌+◌, ◌≤◌}
use Rattle.std.proofs.lemmas.Result.{IfOk-weaker}
use Rattle.blk_device.specs.declared.device.Region.TheVariants.{Image}
use Rattle.geom.proofs.ApartLemmas.{splits_in}
use Rattle.geom.specs.Places.{layout}
use Rattle.inode_pass.specs.Notes.{AreFit}
use Rattle.inode_pass.specs.declared.note.ForkNote.{ForkNote}
use Rattle.fork_pass.specs.Counted.{notes_most}
use Rattle.fork_pass.specs.Passed.{units_at}
use Rattle.fork_pass.proofs.NoteLemmas.{group_passed}
use Rattle.fork_pass.proofs.notes.pass_group.Goals as goal

pub pass_notes-requires-clause-fit : goal.pass_notes-requires-clause-fit
pass_notes-requires-clause-fit g c =
    subst (λ (ns : List ForkNote). AreFit (layout c.args.geo.now) c.args.g ns) (sym (c.as_slice-2.ensures.value ∙ c.take_notes-notes.ensures.taken)) c.requires.fit

pub returns-clause-exact : goal.returns-clause-exact
returns-clause-exact g c =
    IfOk-weaker c.pass_notes.result _ _ (λ found h m e are noted.
    group_passed (layout c.args.geo.now) (m Image) c.args.g (splits_in (layout c.args.geo.now) c.args.geo.now.fitting) c.requires.group (units_at c.args.inodes.now c.args.g) c.as_slice-2.result.now c.args.sets.now c.pass_notes.new.sets found are (c.as_slice-2.ensures.value ∙ c.take_notes-notes.ensures.taken ∙ noted) (h m e)) c.pass_notes.ensures.exact

pub returns-clause-each : goal.returns-clause-each
returns-clause-each g c = λ m e.
    subst (λ (ns : List ForkNote). c.pass_notes.new.steps.reads ≤ c.args.steps.now.reads + notes_most (layout c.args.geo.now) (m Image) c.args.g ns) (c.as_slice-2.ensures.value ∙ c.take_notes-notes.ensures.taken) (c.pass_notes.ensures.each m e)
