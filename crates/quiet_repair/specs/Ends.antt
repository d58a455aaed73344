-- How a repair ends, by the device's count of faults before and after it, and the order of its verdicts.
use Rattle.std.specs.Prelude.{◌≡◌, ◌≤◌, ⊤, ℕ, List, Option, Some, None, length}
use Rattle.blk_device.specs.Causes.{MovesOnly, Rose}
use Rattle.core_calls.specs.declared.answers.OpenRefused.{OpenRefused}
use Rattle.core_calls.specs.declared.answers.ScrubFault.{ScrubFault}
use Rattle.core_calls.specs.declared.answers.ScrubFault.TheVariants as faults
use Rattle.core_parts.specs.Opens.Heads.{is_failed as is_failed_open}
use Rattle.fs_model.specs.declared.entry.Entry.{Entry}
use Rattle.fs_state.specs.declared.plan.Plan.{Plan}
use Rattle.quiet_repair.specs.declared.repair.Repair.{Repair}
use Rattle.quiet_repair.specs.declared.repair.Repair.TheVariants.{Refused, Ended}
use Rattle.repair_door.specs.Causes.{is_failed}
use Rattle.repair_door.specs.declared.no_entry.NoEntry.{NoEntry}
use Rattle.scrub_order.specs.Course.{IsInOrder}

-- Shut only where the count rose, and a full journal only with its most entries
abbrev pub StopsWell : ℕ → ℕ → List Entry → Option ScrubFault → Type 0
StopsWell before now journal (Some (faults.Shut n)) = Rose before now
StopsWell before now journal (Some faults.JournalFull) = 1048576 ≤ length journal
StopsWell before now journal (Some fault) = ⊤
StopsWell before now journal None = ⊤

-- a repair that isn't begun tells a failed device only where the count rose, and no other refusal moves it
abbrev pub EndsWell : ℕ → ℕ → Repair → Type 0
EndsWell before now (Refused why) = MovesOnly (is_failed why) before now
EndsWell before now (Ended repaired) = StopsWell before now repaired.journal.items repaired.stop

-- both are the device's, or none is
abbrev pub IsSameRefusal : OpenRefused → NoEntry → Type 0
IsSameRefusal refused why = is_failed why ≡ is_failed_open refused

-- the verdicts of a journal stand in the order of all units of one group or more, each as it may be: all of them, or, at
-- a stop, the first of them
pub record HasOrder (plan : Plan) (turns : ℕ) (stop : Option ScrubFault) (journal : List Entry) : Type 0 where
  pub groups : ℕ
  pub some : 1 ≤ groups
  pub order : IsInOrder groups plan turns stop journal

-- so do those of a repair that was begun
abbrev pub KeepsOrder : Plan → (turns : ℕ) → Repair → Type 0
KeepsOrder plan turns (Refused why) = ⊤
KeepsOrder plan turns (Ended repaired) = HasOrder plan turns repaired.stop repaired.journal.items
