-- What an event makes of the notes of writers, as it is told.
use Rattle.std.proofs.Common.{◌≡◌, ℕ, sym, subst}
use Rattle.std.specs.Prelude.{List, Option, None, Some, Result, Ok, Err, OnErr, OnOk}
use Rattle.core_calls.specs.declared.answers.Answer.{Answer}
use Rattle.core_calls.specs.declared.answers.Answer.TheVariants.{Done}
use Rattle.core_calls.specs.declared.answers.WriteFault.{WriteFault}
use Rattle.core_calls.specs.declared.asks.Ask.{Ask}
use Rattle.core_notes.specs.Noted.{no_note, note_at, noted, with_note}
use Rattle.core_notes.specs.declared.note.Asker.{Asker}
use Rattle.core_notes.specs.declared.note.Note.{Note}
use Rattle.fsck_core.specs.Replies.{IsNoted, IsNotedBy, IsReplied, reply_asked}
use Rattle.fsck_core.specs.Told.{told_by}

replied_as : (was now : List Note) (writer : ℕ) (r : Result (Unit {0}) WriteFault) → OnOk r (now ≡ with_note was writer no_note) → OnErr r (now ≡ was) → IsReplied was now writer (told_by (λ (nothing : Unit {0}). Done) r)
replied_as was now writer (Ok x) cleared same = cleared
replied_as was now writer (Err f) cleared same = same

pub reply_noted : (was now : List Note) (who : Asker) (ask : Ask) (a : Answer) (to : ℕ × ℕ) (r : Result (Unit {0}) WriteFault) → Some to ≡ reply_asked ask → a ≡ told_by (λ (nothing : Unit {0}). Done) r → OnOk r (now ≡ with_note was to.0 no_note) → OnErr r (now ≡ was) → IsNoted was now who ask a
reply_noted was now who ask a to r asked told cleared same =
    subst (λ (x : Option (ℕ × ℕ)). IsNotedBy x was now who ask a) asked (subst (IsReplied was now to.0) (sym told) (replied_as was now to.0 r cleared same))

pub event_noted : (was now : List Note) (who : Asker) (ask : Ask) (a : Answer) → None ≡ reply_asked ask → now ≡ with_note was who.writer (noted (note_at was who.writer) ask a who) → IsNoted was now who ask a
event_noted was now who ask a asked is = subst (λ (x : Option (ℕ × ℕ)). IsNotedBy x was now who ask a) asked is
