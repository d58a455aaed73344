-- What a check does, event by event: each event reads some blocks, and then adds its entries to the
-- journal, all of them or none.
use Rattle.std.specs.Prelude.{◌≡◌, ◌<◌, ◌≤◌, ⊤, ℕ, ◌+◌, List, [], ◌∷◌, ◌++◌, length, Result, Ok, Err}
use Rattle.fs_model.specs.declared.entry.Entry.{Entry}
use Rattle.space_check.specs.declared.halt.Halt.{Halt}
use Rattle.space_check.specs.declared.halt.Halt.TheVariants as halts

-- An event: how many blocks it reads, and what it adds.
pub record Event : Type 0 where
  pub reads : ℕ
  pub entries : List Entry

abbrev pub reads_of : List Event → ℕ
reads_of [] = 0
reads_of (e ∷ es) = e.reads + reads_of es

abbrev pub entries_of : List Event → List Entry
entries_of [] = []
entries_of (e ∷ es) = e.entries ++ entries_of es

-- no event begins where the journal has so many entries, or more
unfoldable pub most_entries : ℕ
most_entries = 1048576

-- how far a check has come: its journal, and how many blocks were counted as read
pub record Moment : Type 0 where
  pub journal : List Entry
  pub reads : ℕ

abbrev pub moment : List Entry → ℕ → Moment
moment journal reads = record { journal = journal; reads = reads }

-- each event began where the journal had room
abbrev pub HasRoom : List Entry → List Event → Type 0
HasRoom journal [] = ⊤
HasRoom journal (e ∷ es) = (length journal < most_entries) × HasRoom (journal ++ e.entries) es

-- these events were done, one after the other
pub record AreDone (events : List Event) (before after : Moment) : Type 0 where
  pub room : HasRoom before.journal events
  pub added : after.journal ≡ before.journal ++ entries_of events
  pub read : after.reads ≡ before.reads + reads_of events

-- An event was cut off: it had begun, it read no more blocks than it was to read, and none of its
-- entries is in the journal.
pub record IsCutOff (event : Event) (before after : Moment) : Type 0 where
  pub room : length before.journal < most_entries
  pub none : after.journal ≡ before.journal
  pub read : after.reads ≤ before.reads + event.reads

-- how the event that was next ended the check: it didn't begin, since the journal was full; or it
-- was cut off
abbrev pub EndsAt : Halt → Event → (before after : Moment) → Type 0
EndsAt (halts.Head g head fault) event before after = ⊥
EndsAt halts.Full event before after = (most_entries ≤ length before.journal) × (after ≡ before)
EndsAt halts.Failed event before after = IsCutOff event before after
EndsAt halts.Memory event before after = IsCutOff event before after

-- Of these events the first ones were done, and the next one ended the check.
pub record StopsIn (halt : Halt) (events : List Event) (before after : Moment) : Type 0 where
  pub done : List Event
  pub next : Event
  pub rest : List Event
  pub whole : events ≡ done ++ next ∷ rest
  pub reached : Moment
  pub front : AreDone done before reached
  pub ended : EndsAt halt next reached after

abbrev pub Does : {T : Type 0} → List Event → (before after : Moment) → Result T Halt → Type 0
Does events before after (Ok done) = AreDone events before after
Does events before after (Err halt) = StopsIn halt events before after
