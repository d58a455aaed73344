-- Which entries a call adds to the journal, by its answer ("Metadata Scrubbing").
use Rattle.std.specs.Prelude.{◌≡◌, ⊤, ℕ, ◌++◌, ◌∷◌, [], List, Some, Result, Ok, Err}
use Rattle.core_calls.specs.declared.answers.ScrubFault.{ScrubFault}
use Rattle.core_calls.specs.declared.answers.ScrubFault.TheVariants as faults
use Rattle.core_parts.specs.declared.desk.Desk.{Desk}
use Rattle.fs_model.specs.declared.entry.Entry.{Entry}
use Rattle.fs_model.specs.declared.entry.Entry.TheVariants as entries
use Rattle.fs_model.specs.declared.unit.Unit.{Unit as ScrubUnit}
use Rattle.fs_model.specs.declared.verdict.Verdict.{Verdict}
use Rattle.fs_model.specs.declared.verdict.Verdict.TheVariants as verdicts

-- the journal has these entries more, behind all that it had
abbrev pub HasMore : {D : Type 0} → Desk D → Desk D → List Entry → Type 0
HasMore old new added = new.book.journal.items ≡ old.book.journal.items ++ added

-- the entry of a unit's verdict
abbrev pub verdict_entry : ℕ → ScrubUnit → Verdict → Entry
verdict_entry g unit verdict = entries.Verdict g unit verdict

-- A unit that is skipped or given up has its verdict, which tells why; any other refusal adds no entry.
abbrev pub entries_on : ℕ → ScrubUnit → ScrubFault → List Entry
entries_on g unit (faults.Skipped h other) = verdict_entry g unit (verdicts.Skipped h other) ∷ []
entries_on g unit (faults.GaveUp reason) = verdict_entry g unit (verdicts.GaveUp reason) ∷ []
entries_on g unit fault = []

-- the entries of an event that adds none but by a refusal
abbrev pub entries_of : {T : Type 0} → ℕ → ScrubUnit → Result T ScrubFault → List Entry
entries_of g unit (Ok answer) = []
entries_of g unit (Err fault) = entries_on g unit fault

-- the journal is full, or memory is wanting
abbrev pub WantsRoom : ScrubFault → Type 0
WantsRoom faults.JournalFull = ⊤
WantsRoom faults.Memory = ⊤
WantsRoom fault = ⊥

-- the core is shut, or memory is wanting
abbrev pub IsHalt : ScrubFault → Type 0
IsHalt (faults.Shut count) = ⊤
IsHalt faults.Memory = ⊤
IsHalt fault = ⊥

-- the core is shut, with this count of faults
abbrev pub IsShutBy : {D : Type 0} → Desk D → ScrubFault → Type 0
IsShutBy k (faults.Shut count) = k.book.shut ≡ Some count
IsShutBy k fault = ⊥
