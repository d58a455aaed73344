-- What an event makes of the notes of writers.
use Rattle.std.specs.Prelude.{◌≡◌, ℕ, List, Option, Some, None}
use Rattle.core_calls.specs.declared.answers.Answer.{Answer}
use Rattle.core_calls.specs.declared.answers.Answer.TheVariants.{Done}
use Rattle.core_calls.specs.declared.asks.Ask.{Ask}
use Rattle.core_calls.specs.declared.asks.Ask.TheVariants as asks
use Rattle.core_notes.specs.Noted.{no_note, note_at, noted, with_note}
use Rattle.core_notes.specs.declared.note.Asker.{Asker}
use Rattle.core_notes.specs.declared.note.Note.{Note}

-- the writer to whom a reply is asked for, and the line of its script
abbrev pub reply_asked : Ask → Option (ℕ × ℕ)
reply_asked (asks.Note writer line) = Some (writer, line)
reply_asked ask = None

-- a reply clears the writer's note
abbrev pub IsReplied : (was now : List Note) → ℕ → Answer → Type 0
IsReplied was now writer Done = now ≡ with_note was writer no_note
IsReplied was now writer answer = now ≡ was

-- any other event is noted of the writer that asked for it
abbrev pub IsNotedBy : Option (ℕ × ℕ) → (was now : List Note) → Asker → Ask → Answer → Type 0
IsNotedBy (Some to) was now who ask answer = IsReplied was now to.0 answer
IsNotedBy None was now who ask answer = now ≡ with_note was who.writer (noted (note_at was who.writer) ask answer who)

abbrev pub IsNoted : (was now : List Note) → Asker → Ask → Answer → Type 0
IsNoted was now who ask answer = IsNotedBy (reply_asked ask) was now who ask answer
