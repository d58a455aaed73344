use Rattle.std.proofs.Common.{false, ◌+◌, ◌∷◌, [], drop, get_or, Option, refl, subst, ◌∙◌, arith}
use Rattle.std.proofs.lemmas.List.{drop_all}
use Rattle.std.proofs.lemmas.List.Elements.{All-get_or}
use Rattle.blk_device.specs.ReadingLaws.{nothing_read, read_on}
use Rattle.blk_device.specs.declared.device.Region.TheVariants.{Image}
use Rattle.dinode_core.specs.declared.mapping.Fork.TheVariants as forks
use Rattle.fs_model.specs.declared.claim.Evidence.{Evidence}
use Rattle.geom.specs.Places.{layout}
use Rattle.inode_pass.specs.Notes.{IsFit}
use Rattle.inode_pass.specs.Units.{opened_state}
use Rattle.inode_pass.specs.declared.note.ForkNote.{ForkNote}
use Rattle.inode_pass.specs.declared.note.ForkNote.TheVariants.{Mapping}
use Rattle.fork_pass.specs.Counted.{notes_most}
use Rattle.fork_pass.specs.Passed.{NotesPassed, note_bad, note_pieces}
use Rattle.fork_pass.proofs.CountLemmas.{note_on}
use Rattle.fork_pass.proofs.NoteLemmas.{one_inside}
use Rattle.fork_pass.proofs.PassLemmas.{left_end, left_first, left_found, left_on, list_first}
use Rattle.fork_pass.proofs.notes.pass_notes.Goals as goal

abbrev none : ForkNote
none = Mapping 0 forks.Data (record { offset = 0; block = 0; count = 0; unwritten = false })

pub loop-note-init : goal.loop-note-init
loop-note-init g c =
    record {
      left = λ m e p. let a = opened_state (layout c.args.geo.now) (m Image) in left_first (note_bad a c.args.g) (note_pieces a c.args.g) c.args.notes.now c.args.notes.now c.args.sets.now refl;
      each = λ m e. omega arith;
      groups = refl;
      reading = nothing_read g.D.Device g.met.D.Device.only_now g.met.D.Device.counts_now c.args.dev.now c.args.steps.now;
      calm = refl;
    }

pub pass_note-requires-clause-fit : goal.pass_note-requires-clause-fit
pass_note-requires-clause-fit g c = All-get_or (IsFit (layout c.args.geo.now) c.args.g) c.args.notes.now c.loop-note.note-index none c.loop-note-test.true c.requires.fit

pub returns-in_err-pass_note-clause-reading : goal.returns-in_err-pass_note-clause-reading
returns-in_err-pass_note-clause-reading g c =
    read_on g.D.Device g.met.D.Device.only_now g.met.D.Device.counts_now c.args.dev.now c.loop-note.dev c.pass_note.new.dev c.args.steps.now c.loop-note.steps c.pass_note.new.steps c.loop-note.invariant.reading c.pass_note.ensures.reading

pub returns-in-Some-clause-reading : goal.returns-in-Some-clause-reading
returns-in-Some-clause-reading g c =
    read_on g.D.Device g.met.D.Device.only_now g.met.D.Device.counts_now c.args.dev.now c.loop-note.dev c.pass_note.new.dev c.args.steps.now c.loop-note.steps c.pass_note.new.steps c.loop-note.invariant.reading c.pass_note.ensures.reading

pub returns-in-Some-clause-exact : goal.returns-in-Some-clause-exact
returns-in-Some-clause-exact g c = λ m e p.
    let a = opened_state (layout c.args.geo.now) (m Image) in
    let note = get_or c.args.notes.now c.loop-note.note-index none in
    let told = c.in_ok-pass_note.ensures.exact m (c.loop-note.invariant.reading.same ∙ e) (one_inside a c.args.g c.args.notes.now c.loop-note.note-index none c.loop-note-test.true p) in
    let passed = subst (λ (o : Option Evidence). NotesPassed a c.args.g (note ∷ []) c.loop-note.sets c.pass_note.new.sets o) c.in-Some.is told in
    left_found (note_bad a c.args.g) (note_pieces a c.args.g) c.args.notes.now (drop c.loop-note.note-index c.args.notes.now) (note ∷ []) (drop (c.loop-note.note-index + 1) c.args.notes.now) c.args.sets.now c.loop-note.sets c.pass_note.new.sets c.in-Some.found (list_first c.args.notes.now c.loop-note.note-index none c.loop-note-test.true) (c.loop-note.invariant.left m e p) passed

pub loop-note-preserved : goal.loop-note-preserved
loop-note-preserved g c =
    record {
      left = λ m e p.
          let a = opened_state (layout c.args.geo.now) (m Image) in
          let note = get_or c.args.notes.now c.loop-note.note-index none in
          let told = c.in_ok-pass_note.ensures.exact m (c.loop-note.invariant.reading.same ∙ e) (one_inside a c.args.g c.args.notes.now c.loop-note.note-index none c.loop-note-test.true p) in
          let passed = subst (λ (o : Option Evidence). NotesPassed a c.args.g (note ∷ []) c.loop-note.sets c.pass_note.new.sets o) c.in-None.is told in
          left_on (note_bad a c.args.g) (note_pieces a c.args.g) c.args.notes.now (drop c.loop-note.note-index c.args.notes.now) (note ∷ []) (drop (c.loop-note.note-index + 1) c.args.notes.now) c.args.sets.now c.loop-note.sets c.pass_note.new.sets (list_first c.args.notes.now c.loop-note.note-index none c.loop-note-test.true) (c.loop-note.invariant.left m e p) passed;
      each = λ m e. note_on (layout c.args.geo.now) (m Image) c.args.g c.args.notes.now c.loop-note.note-index none c.loop-note.steps.reads c.pass_note.new.steps.reads (c.args.steps.now.reads + notes_most (layout c.args.geo.now) (m Image) c.args.g c.args.notes.now) c.loop-note-test.true (c.loop-note.invariant.each m e) (c.pass_note.ensures.each m (c.loop-note.invariant.reading.same ∙ e));
      groups = c.pass_note.ensures.groups ∙ c.loop-note.invariant.groups;
      reading = read_on g.D.Device g.met.D.Device.only_now g.met.D.Device.counts_now c.args.dev.now c.loop-note.dev c.pass_note.new.dev c.args.steps.now c.loop-note.steps c.pass_note.new.steps c.loop-note.invariant.reading c.pass_note.ensures.reading;
      calm = c.in_ok-pass_note.ensures.cause ∙ c.loop-note.invariant.calm;
    }

pub returns-clause-exact : goal.returns-clause-exact
returns-clause-exact g c = λ m e p.
    let a = opened_state (layout c.args.geo.now) (m Image) in
    left_end (note_bad a c.args.g) (note_pieces a c.args.g) c.args.notes.now (drop c.loop-note.note-index c.args.notes.now) c.args.sets.now c.loop-note.sets (drop_all c.loop-note.note-index c.args.notes.now (omega (arith, c.loop-note-test.false))) (c.loop-note.invariant.left m e p)

pub returns-in_err-pass_note-clause-each : goal.returns-in_err-pass_note-clause-each
returns-in_err-pass_note-clause-each g c = λ m e.
    let on = note_on (layout c.args.geo.now) (m Image) c.args.g c.args.notes.now c.loop-note.note-index none c.loop-note.steps.reads c.pass_note.new.steps.reads (c.args.steps.now.reads + notes_most (layout c.args.geo.now) (m Image) c.args.g c.args.notes.now) c.loop-note-test.true (c.loop-note.invariant.each m e) (c.pass_note.ensures.each m (c.loop-note.invariant.reading.same ∙ e)) in
    omega (arith, on)

pub returns-in-Some-clause-each : goal.returns-in-Some-clause-each
returns-in-Some-clause-each g c = λ m e.
    let on = note_on (layout c.args.geo.now) (m Image) c.args.g c.args.notes.now c.loop-note.note-index none c.loop-note.steps.reads c.pass_note.new.steps.reads (c.args.steps.now.reads + notes_most (layout c.args.geo.now) (m Image) c.args.g c.args.notes.now) c.loop-note-test.true (c.loop-note.invariant.each m e) (c.pass_note.ensures.each m (c.loop-note.invariant.reading.same ∙ e)) in
    omega (arith, on)

pub returns-clause-each : goal.returns-clause-each
returns-clause-each g c = λ m e. omega (arith, c.loop-note.invariant.each m e)
