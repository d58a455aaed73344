-- Why an event of a scrubber isn't done, as far as the desk shows it.
use Rattle.std.specs.Prelude.{◌≡◌, ◌≤◌, ⊤, Some, Result, Ok, Err, length}
use Rattle.core_calls.specs.declared.answers.Answer.{Answer}
use Rattle.core_calls.specs.declared.answers.Answer.TheVariants as answers
use Rattle.core_calls.specs.declared.answers.ScrubFault.{ScrubFault}
use Rattle.core_calls.specs.declared.answers.ScrubFault.TheVariants as faults
use Rattle.core_parts.specs.declared.desk.Desk.{Desk}

-- a journal is full only with its most entries, and the core is shut only once a fault of the device was counted
abbrev pub HasReason : {D : Type 0} → Desk D → ScrubFault → Type 0
HasReason desk faults.JournalFull = 1048576 ≤ length desk.book.journal.items
HasReason desk (faults.Shut n) = desk.book.shut ≡ Some n
HasReason desk fault = ⊤

abbrev pub TellsWell : {D : Type 0} → Desk D → Answer → Type 0
TellsWell desk (answers.Scrub fault) = HasReason desk fault
TellsWell desk answer = ⊤

abbrev pub AnswersWell : {D T : Type 0} → Desk D → Result T ScrubFault → Type 0
AnswersWell desk (Ok answer) = ⊤
AnswersWell desk (Err fault) = HasReason desk fault
