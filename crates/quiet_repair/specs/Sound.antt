-- When a check finds nothing to repair.
use Rattle.std.specs.Prelude.{◌≡◌, ◌≤◌, Bool, true, false, ℕ, List, Option, Some, None, IfSome, IsTrue, ⊤}
use Rattle.std.specs.Global.{Vec}
use Rattle.blk_device.specs.Contents.{Contents, map_told}
use Rattle.blk_device.specs.declared.device.Region.{Region}
use Rattle.blk_device.specs.declared.device.Region.TheVariants.{Image, Redo}
use Rattle.fs_model.specs.declared.entry.Entry.{Entry}
use Rattle.fs_model.specs.declared.entry.Entry.TheVariants as entries
use Rattle.fs_model.specs.declared.verdict.Verdict.{Verdict}
use Rattle.fs_model.specs.declared.verdict.Verdict.TheVariants as verdicts
use Rattle.fs_state.specs.declared.plan.Plan.{Plan}
use Rattle.fs_state.specs.declared.plan.Plan.TheVariants as plans
use Rattle.geom.specs.Layout.{layout_of}
use Rattle.geom.specs.Superblock.{first_fault}
use Rattle.image_check.specs.Image.{image_checked}
use Rattle.quiet_repair.specs.declared.repair.Repair.{Repair}
use Rattle.quiet_repair.specs.declared.repair.Repair.TheVariants.{Refused, Ended}
use Rattle.quiet_repair.specs.declared.repair.Repaired.{Repaired}
use Rattle.repair_door.specs.Doors.{IsDecided}
use Rattle.redo_area.specs.Area.{after_recovery, is_open}
use Rattle.redo_area.specs.declared.TheConstants.{REDO_BLOCKS}
use Rattle.sblock.specs.Lists.{Each}
use Rattle.scrub_order.specs.Course.{IsInOrder}
use Rattle.space_check.specs.Checked.{Checked, Judged}

abbrev pub is_good : Verdict → Bool
is_good verdicts.Good = true
is_good verdict = false

-- a unit's verdict that it is good
abbrev pub is_good_entry : Entry → Bool
is_good_entry (entries.Verdict g unit verdict) = is_good verdict
is_good_entry entry = false

-- such a check doesn't find every unit good
abbrev pub IsUnsound : Checked → Type 0
IsUnsound checked = (journal : List Entry) → checked ≡ Judged journal → Each is_good_entry journal → ⊥

-- this is the journal of a check that found every unit good; there is none where it didn't
abbrev pub IsSound : Checked → Option (Vec Entry) → Type 0
IsSound checked None = IsUnsound checked
IsSound checked (Some journal) = (checked ≡ Judged journal.items) × Each is_good_entry journal.items

-- this is the journal of a repair of n groups, whatever its turns, that had nothing to rebuild
abbrev pub IsSoundOrder : ℕ → Option (Vec Entry) → Type 0
IsSoundOrder n None = ⊤
IsSoundOrder n (Some journal) = (turns : ℕ) → IsInOrder n plans.Repair turns None journal.items

-- A check of a device with these sizes, beside its redo region, has this journal and finds every unit of every group good:
-- the region is long enough and no change waits in it, superblock and heads pass, and each entry says that a unit is good.
pub record IsSoundDevice (blocks : Region → ℕ) (journal : List Entry) (m : Contents) : Type 0 where
  pub long : REDO_BLOCKS ≤ blocks Redo
  pub closed : is_open m ≡ false
  pub superblock : first_fault (m Image 0) (blocks Image) ≡ None
  pub judged : image_checked (layout_of (m Image 0)) (m Image) ≡ Judged journal
  pub good : Each is_good_entry journal

-- a repair that had nothing to do leaves such a device, where it tells what it holds
abbrev pub LeavesSound : Option Contents → (Region → ℕ) → Repair → Type 0
LeavesSound content blocks (Refused why) = ⊤
LeavesSound content blocks (Ended repaired) = IsTrue repaired.is_sound → IfSome content (IsSoundDevice blocks repaired.journal.items)

-- such a repair leaves what the device tells of its content
abbrev pub StaysSound : (old new : Option Contents) → Repair → Type 0
StaysSound old new (Refused why) = ⊤
StaysSound old new (Ended repaired) = IsTrue repaired.is_sound → new ≡ old

-- or has written nothing but a change that waited
abbrev pub KeepsSound : (old new : Option Contents) → Repair → Type 0
KeepsSound old new repair = StaysSound (map_told after_recovery old) new repair

-- something was to do
abbrev pub IsBusy : Repair → Type 0
IsBusy (Refused why) = ⊤
IsBusy (Ended repaired) = repaired.is_sound ≡ false

-- a check had this journal, and nothing was done
pub record IsNothingDone (journal : List Entry) (repaired : Repaired) : Type 0 where
  pub told : repaired.is_sound ≡ true
  pub checked : repaired.journal.items ≡ journal
  pub whole : repaired.stop ≡ None
  pub well : repaired.is_sick ≡ false

-- nothing is done; only a failed device and want of memory refuse it
abbrev pub DoesNothing : (journal : List Entry) → Repair → Type 0
DoesNothing journal (Refused why) = IsDecided None why
DoesNothing journal (Ended repaired) = IsNothingDone journal repaired

-- a device of which a check finds all good is left alone, unless all is to be rebuilt
abbrev pub LeavesAlone : Plan → (journal : List Entry) → Repair → Type 0
LeavesAlone plans.Check journal repair = ⊤
LeavesAlone plans.Repair journal repair = DoesNothing journal repair
LeavesAlone plans.Rebuild journal repair = ⊤
