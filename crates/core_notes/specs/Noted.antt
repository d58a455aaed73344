-- What is noted of a writer, and the reply that is made of it.
use Rattle.std.specs.Prelude.{ℕ, ◌+◌, ◌-◌, ◌^◌, ◌==◌, nat_lt, nat_le, not, ◌&&◌, Bool, true, false, List, Option, Some, None, get_or, slice_set, if◌then◌else◌}
use Rattle.core_calls.specs.Events.{event_in}
use Rattle.core_calls.specs.declared.answers.Answer.{Answer}
use Rattle.core_calls.specs.declared.answers.Answer.TheVariants.{Blocks, Chain, Write}
use Rattle.core_calls.specs.declared.answers.WriteFault.{WriteFault}
use Rattle.core_calls.specs.declared.answers.WriteFault.TheVariants as faults
use Rattle.core_calls.specs.declared.asks.Ask.{Ask}
use Rattle.core_calls.specs.declared.asks.Ask.TheVariants as asks
use Rattle.core_notes.specs.declared.note.Asker.{Asker}
use Rattle.core_notes.specs.declared.note.Note.{Note}
use Rattle.core_notes.specs.declared.notes.Notes.{Notes}
use Rattle.fs_model.specs.declared.entry.Entry.{Entry}
use Rattle.fs_model.specs.declared.entry.Entry.TheVariants as entries
use Rattle.fs_model.specs.declared.event.Refused.{Refused}

-- the place of a refusal in the order of all, from 1 on
abbrev pub code_of : WriteFault → ℕ
code_of faults.NoFile = 1
code_of faults.Occupied = 2
code_of faults.Hole = 3
code_of faults.ForkFull = 4
code_of faults.TreeFork = 5
code_of faults.NoSpace = 6
code_of (faults.Sick g kind) = 7
code_of faults.CountMax = 8
code_of faults.TooLarge = 9
code_of (faults.Busy ino) = 10
code_of (faults.Closing g) = 11
code_of (faults.Shut n) = 12
code_of faults.Memory = 13
code_of faults.Crowded = 14
code_of faults.NoChain = 15
code_of (faults.OtherStep next) = 16
code_of faults.JournalFull = 17

abbrev pub gives_inode : Ask → Bool
gives_inode (asks.GiveInode chain) = true
gives_inode ask = false

-- it isn't one after which a writer tries the same again
abbrev pub counts : Ask → WriteFault → Bool
counts ask (faults.Busy ino) = false
counts ask (faults.Closing g) = false
counts ask faults.Crowded = false
counts ask faults.Occupied = not (gives_inode ask)
counts ask fault = true

-- ---- what an event was asked

abbrev pub offset_of : Ask → ℕ
offset_of (asks.MapFirst chain offset count) = offset
offset_of (asks.UnmapFirst chain offset count) = offset
offset_of (asks.ConvertFirst chain offset count) = offset
offset_of (asks.ShareFirst chain offset to_offset count) = offset
offset_of ask = 0

abbrev pub to_offset_of : Ask → ℕ
to_offset_of (asks.ShareFirst chain offset to_offset count) = to_offset
to_offset_of ask = 0

abbrev pub count_of : Ask → ℕ
count_of (asks.MapFirst chain offset count) = count
count_of (asks.UnmapFirst chain offset count) = count
count_of (asks.ConvertFirst chain offset count) = count
count_of (asks.ShareFirst chain offset to_offset count) = count
count_of ask = 0

abbrev pub refused_of : Ask → Asker → Refused
refused_of ask who = record { event = event_in ask; first = who.first; second = who.second; offset = offset_of ask; to_offset = to_offset_of ask; count = count_of ask }

-- ---- what it has done

-- blocks of a file that a first event has changed
abbrev pub blocks_of : Ask → Answer → ℕ
blocks_of (asks.MapFirst chain offset count) (Blocks n) = n
blocks_of (asks.UnmapFirst chain offset count) (Blocks n) = n
blocks_of (asks.StripFirst chain) (Blocks n) = n
blocks_of (asks.ShareFirst chain offset to_offset count) (Blocks n) = n
blocks_of (asks.ConvertFirst chain offset count) (Blocks n) = n
blocks_of ask answer = 0

-- as far as 64 bits go
abbrev pub more_done : ℕ → ℕ → ℕ
more_done done n = if nat_le (done + n) (2 ^ 64 - 1) then done + n else 2 ^ 64 - 1

-- the inode that is held, where it is only one
abbrev pub held_one : ℕ → Option ℕ → Option ℕ
held_one first None = Some first
held_one first (Some other) = if other == first then Some first else None

abbrev pub begun_after : Option ℕ → Ask → Answer → Option ℕ
begun_after begun (asks.Begin writer first second) (Chain n) = held_one first second
begun_after begun ask answer = begun

-- ---- the note

abbrev pub no_note : Note
no_note = record { code = 0; refused = None; done = 0; begun = None }

abbrev pub with_refusal : Note → Ask → WriteFault → Asker → Note
with_refusal note ask fault who = if counts ask fault then record note { code = code_of fault; refused = Some (refused_of ask who) } else note

-- a note behind an event with this answer
abbrev pub noted : Note → Ask → Answer → Asker → Note
noted note ask (Write fault) who = with_refusal note ask fault who
noted note ask answer who = record note { done = more_done note.done (blocks_of ask answer); begun = begun_after note.begun ask answer }

-- there are writers 1 to 16
abbrev pub is_writer : ℕ → Bool
is_writer writer = nat_lt 0 writer && nat_le writer 16

abbrev pub notes_of : Notes → List Note
notes_of n = n.notes

abbrev pub note_at : List Note → ℕ → Note
note_at notes writer = if is_writer writer then get_or notes (writer - 1) no_note else no_note

abbrev pub with_note : List Note → ℕ → Note → List Note
with_note notes writer note = if is_writer writer then slice_set notes (writer - 1) note else notes

abbrev pub reply_of : Note → ℕ → ℕ → Entry
reply_of note writer line = entries.Reply writer line note.code note.done note.refused note.begun
