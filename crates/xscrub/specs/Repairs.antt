-- What a repair finds of a device that was opened for it.
use Rattle.std.specs.Prelude.{◌≡◌, ⊤, ℕ, Bool, true, false, Option, IfSome}
use Rattle.blk_device.specs.Causes.{Rose}
use Rattle.blk_device.specs.Contents.{Contents}
use Rattle.blk_device.specs.declared.device.Region.{Region}
use Rattle.blk_device.specs.declared.device.Region.TheVariants.{Image, Redo}
use Rattle.fs_state.specs.declared.plan.Plan.{Plan}
use Rattle.quiet_repair.specs.declared.repair.Repair.{Repair}
use Rattle.quiet_repair.specs.declared.repair.Repair.TheVariants.{Refused, Ended}
use Rattle.xscrub.specs.Image.{device_outcome}
use Rattle.xscrub.specs.Outcome.{code_of, is_no_repair, outcome_of}
use Rattle.xscrub.specs.Units.{HasSession, IsFullJournal}
use Rattle.xscrub.specs.declared.ending.Finding.{Finding}
use Rattle.xscrub.specs.declared.ending.Finding.TheVariants as findings
use Rattle.xscrub.specs.declared.ending.Status.TheVariants as statuses

abbrev pub IsOfDevice : Finding → Type 0
IsOfDevice (findings.Judged journal) = ⊥
IsOfDevice (findings.Repaired journal sick) = ⊤
IsOfDevice (findings.Full journal) = IsFullJournal journal.items
IsOfDevice (findings.Refused line) = is_no_repair line ≡ true
IsOfDevice findings.Made = ⊥
IsOfDevice findings.Usage = ⊥
IsOfDevice (findings.DeviceFailed journal) = ⊤
IsOfDevice findings.HostFailed = ⊥
IsOfDevice (findings.Memory journal) = ⊤

-- the device has failed only where its count rose, and is called repaired only where it didn't
abbrev pub CountsFor : (before now : ℕ) → Finding → Type 0
CountsFor before now (findings.Repaired journal sick) = now ≡ before
CountsFor before now (findings.DeviceFailed journal) = Rose before now
CountsFor before now finding = ⊤

-- the journal of what is found is a session, as its status says
abbrev pub FindsSession : Plan → (turns : ℕ) → Finding → Type 0
FindsSession plan turns finding = HasSession plan turns (code_of (outcome_of finding).status) (outcome_of finding).journal

-- ---- what a repair leaves that ends with 0

-- this finding ends with 0
abbrev pub IsClean : Finding → Type 0
IsClean finding = (outcome_of finding).status ≡ statuses.Clean

-- a check of a device with these sizes, beside its redo region, ends with 0
abbrev pub ChecksClean : (Region → ℕ) → Contents → Type 0
ChecksClean blocks m = (device_outcome true (blocks Redo) (blocks Image) m).status ≡ statuses.Clean

-- once it is done, the device is one like that, where it tells what it holds
abbrev pub LeavesClean : (done : Type 0) → Option Contents → (Region → ℕ) → Type 0
LeavesClean done content blocks = done → IfSome content (ChecksClean blocks)

-- a check found nothing to repair
abbrev pub was_sound : Repair → Bool
was_sound (Refused why) = false
was_sound (Ended repaired) = repaired.is_sound
