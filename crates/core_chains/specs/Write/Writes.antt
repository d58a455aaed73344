-- What the events of writers have in common: why one isn't done, what its calls leave, and what it leaves of all parts.
use Rattle.std.specs.Prelude.{◌≡◌, ◌≤◌, ◌<◌, ⊤, ℕ, List, Some, None, Result, Ok, Err, OnOk, length}
use Rattle.blk_device.specs.declared.device.Device.{Ghosts}
use Rattle.core_calls.specs.declared.answers.ScrubFault.{ScrubFault}
use Rattle.core_calls.specs.declared.answers.ScrubFault.TheVariants as scrubs
use Rattle.core_calls.specs.declared.answers.WriteFault.{WriteFault}
use Rattle.core_calls.specs.declared.answers.WriteFault.TheVariants as faults
use Rattle.core_parts.specs.Common.Asks.{IsUsable}
use Rattle.core_parts.specs.Keeps.{IsSteady}
use Rattle.core_parts.specs.Safe.{AreKept, IsDesk, IsKept, IsSafe}
use Rattle.core_parts.specs.declared.desk.Desk.{Desk}
use Rattle.core_parts.specs.declared.groups.GroupKept.{GroupKept}
use Rattle.core_parts.specs.declared.parts.Parts.{Parts}

-- a journal is full only with its most entries, and the core is shut only once a fault of the device was counted
abbrev pub HasWriteReason : {D : Type 0} → Desk D → WriteFault → Type 0
HasWriteReason desk faults.JournalFull = 1048576 ≤ length desk.book.journal.items
HasWriteReason desk (faults.Shut n) = desk.book.shut ≡ Some n
HasWriteReason desk fault = ⊤

abbrev pub WritesWell : {D T : Type 0} → Desk D → Result T WriteFault → Type 0
WritesWell desk (Ok answer) = ⊤
WritesWell desk (Err fault) = HasWriteReason desk fault

-- how a writer is told what stopped a call
abbrev pub write_of : ScrubFault → WriteFault
write_of scrubs.JournalFull = faults.JournalFull
write_of (scrubs.Shut n) = faults.Shut n
write_of fault = faults.Memory

-- What a call of an event leaves: a desk that is safe, with the geometry, the sizes and a journal that grew; a refusal
-- has its reason, and without one the event may go on.
pub record WriteAnswers {D T : Type 0} (d : Ghosts D) (old new : Desk D) (answer : Result T WriteFault) : Type 0 where
  pub desk : IsDesk d new
  pub steady : IsSteady d old new
  pub reason : WritesWell new answer
  pub unshut : OnOk answer (new.book.shut ≡ None)

-- what an event of a group is given, with what is kept of it
pub record IsGivenGroup {D : Type 0} (d : Ghosts D) (k : Desk D) (p : GroupKept) (g : ℕ) : Type 0 where
  pub usable : IsUsable d k
  pub kept : IsKept p
  pub inside : g < k.store.geo.agcount

-- and what it leaves
pub record IsLeftGroup {D T : Type 0} (d : Ghosts D) (old new : Desk D) (p : GroupKept) (answer : Result T WriteFault) : Type 0 where
  pub answers : WriteAnswers d old new answer
  pub kept : IsKept p

-- ---- with what is kept of all groups

pub record IsGivenAll {D : Type 0} (d : Ghosts D) (k : Desk D) (ks : List GroupKept) : Type 0 where
  pub usable : IsUsable d k
  pub groups : length ks ≡ k.store.geo.agcount
  pub kept : AreKept ks

pub record IsLeftAll {D : Type 0} (d : Ghosts D) (old new : Desk D) (was ks : List GroupKept) : Type 0 where
  pub desk : IsDesk d new
  pub steady : IsSteady d old new
  pub groups : length ks ≡ length was
  pub kept : AreKept ks

-- ---- with all parts

-- a fault that was noted stays so
abbrev pub StaysShut : {D : Type 0} → Desk D → Desk D → Type 0
StaysShut old new = (n : ℕ) → old.book.shut ≡ Some n → new.book.shut ≡ Some n

-- what every event of a writer keeps, whatever it answers
pub record WriteParts {D T : Type 0} (d : Ghosts D) (old new : Parts D) (answer : Result T WriteFault) : Type 0 where
  pub safe : IsSafe d new
  pub steady : IsSteady d old.desk new.desk
  pub reason : WritesWell new.desk answer
  pub shut : StaysShut old.desk new.desk
