-- Which repairs aren't begun, and what they leave.
use Rattle.std.specs.Prelude.{◌≡◌, ⊤, Option, Some, None, IfSome}
use Rattle.blk_device.specs.Contents.{Contents}
use Rattle.blk_device.specs.declared.device.Region.TheVariants.{Image}
use Rattle.core_calls.specs.declared.answers.OpenRefused.{OpenRefused}
use Rattle.core_calls.specs.declared.answers.OpenRefused.TheVariants as opens
use Rattle.geom.specs.Places.{layout}
use Rattle.geom.specs.declared.geometry.Geometry.{Geometry}
use Rattle.quiet_repair.specs.declared.repair.Repair.{Repair}
use Rattle.quiet_repair.specs.declared.repair.Repair.TheVariants.{Refused, Ended}
use Rattle.repair_door.specs.Doors.{IsDecided, Leaves, heads_refusal}
use Rattle.repair_door.specs.declared.no_entry.NoEntry.{NoEntry}
use Rattle.repair_door.specs.declared.no_entry.NoEntry.TheVariants as entries

-- how a device is refused that isn't opened
abbrev pub late_entry : OpenRefused → NoEntry
late_entry (opens.Group g head fault) = entries.Head g head fault
late_entry opens.Failed = entries.Failed
late_entry opens.Memory = entries.Memory

-- a repair is refused by this, or else begun; a failed device and want of memory may refuse it too
abbrev pub RefusesAs : (decided : Option NoEntry) → Repair → Type 0
RefusesAs decided (Refused why) = IsDecided decided why
RefusesAs decided (Ended repaired) = decided ≡ None

-- what a refused repair leaves of what the device tells
abbrev pub LeavesRefused : (old new : Option Contents) → Repair → Type 0
LeavesRefused old new (Refused why) = Leaves old new why
LeavesRefused old new (Ended repaired) = ⊤

-- the heads of all groups pass, where the device tells them
abbrev pub HeadsPass : Option Contents → Geometry → Type 0
HeadsPass content geo = (m : Contents) → content ≡ Some m → heads_refusal (layout geo) (m Image) ≡ None

abbrev pub StaysRefused : (old new : Option Contents) → Repair → Type 0
StaysRefused old new (Refused why) = new ≡ old
StaysRefused old new (Ended repaired) = ⊤

abbrev pub IsEnded : Repair → Type 0
IsEnded (Refused why) = ⊥
IsEnded (Ended repaired) = ⊤

-- only a failed device and want of memory refuse a repair that has passed the door, and what the device tells stays
pub record RefusesLate (old new : Option Contents) (repair : Repair) : Type 0 where
  pub by : IfSome old (λ m. RefusesAs None repair)
  pub stays : StaysRefused old new repair
