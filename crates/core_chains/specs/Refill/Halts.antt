-- How an event that edits a group ends before its commit, and what its calls leave of the desk.
use Rattle.std.specs.Prelude.{◌≡◌, ◌≤◌, ◌+◌, ⊤, None, Result, Ok, Err}
use Rattle.std.specs.Vec.{vec_capacity, vec_len}
use Rattle.blk_device.specs.declared.device.Device.{Ghosts}
use Rattle.core_calls.specs.declared.answers.WriteFault.TheVariants as faults
use Rattle.core_parts.specs.Keeps.{IsSteady}
use Rattle.core_parts.specs.Safe.{IsDesk}
use Rattle.core_parts.specs.declared.desk.Desk.{Desk}
use Rattle.core_chains.specs.Write.Writes.{HasWriteReason}
use Rattle.core_chains.specs.declared.refill.halts.Halt.{Halt}
use Rattle.core_chains.specs.declared.refill.halts.Halt.TheVariants as halts

-- two entries can be added, and the event isn't stopped by the device
pub record IsMarkable {D : Type 0} (k : Desk D) : Type 0 where
  pub unshut : k.book.shut ≡ None
  pub room : vec_len k.book.journal + 2 ≤ vec_capacity k.book.journal

-- a refusal has its reason; where something was met, it can be marked
abbrev pub HaltsWell : {D : Type 0} → Desk D → Halt → Type 0
HaltsWell k (halts.Refused fault) = HasWriteReason k fault
HaltsWell k (halts.Met g kind cause) = IsMarkable k
HaltsWell k (halts.Owned g) = IsMarkable k

abbrev pub EndsWell : {D T : Type 0} → Desk D → Result T Halt → Type 0
EndsWell k (Ok answer) = k.book.shut ≡ None
EndsWell k (Err halt) = HaltsWell k halt

-- What a call of an event leaves: a desk that is safe, with the geometry, the sizes and a journal that grew.
pub record Halts {D T : Type 0} (d : Ghosts D) (old new : Desk D) (answer : Result T Halt) : Type 0 where
  pub desk : IsDesk d new
  pub steady : IsSteady d old new
  pub ends : EndsWell new answer

-- something was met that can be marked
abbrev pub IsMet : Halt → Type 0
IsMet (halts.Refused fault) = ⊥
IsMet (halts.Met g kind cause) = ⊤
IsMet (halts.Owned g) = ⊤

-- memory is wanting
abbrev pub IsMemory : Halt → Type 0
IsMemory halt = halt ≡ halts.Refused faults.Memory
