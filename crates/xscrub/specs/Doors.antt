-- Which repairs are refused, and what image that leaves, as the bytes decide it.
use Rattle.std.specs.Prelude.{◌≡◌, ⊤, ℕ, List, Option, Some, None}
use Rattle.std.specs.Option.{option_map}
use Rattle.blk_device.specs.Contents.{Contents}
use Rattle.blk_device.specs.declared.device.Region.TheVariants.{Image}
use Rattle.image_hosts.specs.Stored.{Stored, opened}
use Rattle.quiet_repair.specs.declared.repair.Repair.{Repair}
use Rattle.quiet_repair.specs.declared.repair.Repair.TheVariants.{Refused, Ended}
use Rattle.redo_area.specs.Area.{after_recovery}
use Rattle.repair_door.specs.Doors.{door_refusal}
use Rattle.repair_door.specs.declared.no_entry.NoEntry.{NoEntry}
use Rattle.repair_door.specs.declared.no_entry.NoEntry.TheVariants as entries
use Rattle.xscrub.specs.Command.{Job, repair_of}
use Rattle.xscrub.specs.Outcome.{Outcome}
use Rattle.xscrub.specs.declared.ending.Finding.{Finding}
use Rattle.xscrub.specs.declared.ending.Finding.TheVariants as findings
use Rattle.xscrub.specs.declared.ending.Status.{Status}
use Rattle.xscrub.specs.declared.ending.Status.TheVariants as statuses
use Rattle.xscrub.specs.declared.last_lines.BatchRefusal.TheVariants as batches
use Rattle.xscrub.specs.declared.last_lines.LastLine.{LastLine}
use Rattle.xscrub.specs.declared.last_lines.LastLine.TheVariants as lines
use Rattle.xscrub.specs.declared.last_lines.RedoRefusal.TheVariants as redos

abbrev pub entry_line : NoEntry → LastLine
entry_line entries.Short = lines.Redo redos.Short
entry_line entries.Count = lines.Batch batches.Count
entry_line entries.Size = lines.Batch batches.Size
entry_line entries.Place = lines.Batch batches.Place
entry_line (entries.Image fault) = lines.Image fault
entry_line (entries.Head group head fault) = lines.Head group head fault
entry_line entries.Failed = lines.DeviceFailed
entry_line entries.Memory = lines.Memory

-- the image that is left: where the redo region is refused the one that was there, else what a recovery makes of it
abbrev pub left_by : NoEntry → Contents → ℕ → List ℕ
left_by entries.Short m = m Image
left_by entries.Count m = m Image
left_by entries.Size m = m Image
left_by entries.Place m = m Image
left_by why m = after_recovery m Image

-- that image is left; nothing is said where the device failed
abbrev pub LeavesImage : (m : Contents) → (left : Option (ℕ → List ℕ)) → NoEntry → Type 0
LeavesImage m left entries.Failed = ⊤
LeavesImage m left why = left ≡ Some (left_by why m)

abbrev pub RepairLeaves : (m : Contents) → (left : Option (ℕ → List ℕ)) → Repair → Type 0
RepairLeaves m left (Refused why) = LeavesImage m left why
RepairLeaves m left (Ended repaired) = ⊤

-- this line refuses the repair, as the bytes decide it, and that image is left
pub record IsRefusedBy (decided : Option NoEntry) (m : Contents) (left : Option (ℕ → List ℕ)) (line : LastLine) : Type 0 where
  pub why : NoEntry
  pub decides : decided ≡ Some why
  pub told : line ≡ entry_line why
  pub leaves : left ≡ Some (left_by why m)

-- ---- what is found

abbrev pub FindsByDoor : (decided : Option NoEntry) → (m : Contents) → (left : Option (ℕ → List ℕ)) → Finding → Type 0
FindsByDoor decided m left (findings.Judged journal) = decided ≡ None
FindsByDoor decided m left (findings.Repaired journal sick) = decided ≡ None
FindsByDoor decided m left (findings.Full journal) = decided ≡ None
FindsByDoor decided m left (findings.Refused line) = IsRefusedBy decided m left line
FindsByDoor decided m left findings.Made = decided ≡ None
FindsByDoor decided m left findings.Usage = ⊤
FindsByDoor decided m left (findings.DeviceFailed journal) = ⊤
FindsByDoor decided m left findings.HostFailed = ⊤
FindsByDoor decided m left (findings.Memory journal) = ⊤

-- the image of a device, and one that is stored, where they are told
abbrev pub image_told : Option Contents → Option (ℕ → List ℕ)
image_told content = option_map (λ m. m Image) content

abbrev pub image_stored : Option Stored → Option (ℕ → List ℕ)
image_stored file = option_map (λ f. f.at) file

-- of a device that holds this, with these sizes of its redo region and its image
abbrev pub FindsAtDoor : (redo size : ℕ) → (m : Contents) → (left : Option (ℕ → List ℕ)) → Finding → Type 0
FindsAtDoor redo size m left finding = FindsByDoor (door_refusal redo size m) m left finding

-- ---- how a run ends

-- at 4 the repair is refused for what the bytes decide; where it ends otherwise, unless something failed, they refuse nothing
abbrev pub EndsSoRefused : (decided : Option NoEntry) → (m : Contents) → (left : Option (ℕ → List ℕ)) → Status → (last : Option LastLine) → Type 0
EndsSoRefused decided m left statuses.Clean last = decided ≡ None
EndsSoRefused decided m left statuses.Faulty last = decided ≡ None
EndsSoRefused decided m left statuses.Usage last = ⊤
EndsSoRefused decided m left statuses.Refused last = (line : LastLine) × (last ≡ Some line) × IsRefusedBy decided m left line
EndsSoRefused decided m left statuses.Failed last = ⊤
EndsSoRefused decided m left statuses.GaveUp last = decided ≡ None
EndsSoRefused decided m left statuses.Full last = decided ≡ None
EndsSoRefused decided m left statuses.Memory last = ⊤

-- of the image and the redo file that were stored, where the host tells both, and the image that is stored then
abbrev pub EndsOfFiles : (file redo file' : Option Stored) → Outcome → Type 0
EndsOfFiles None redo file' outcome = ⊤
EndsOfFiles (Some file) None file' outcome = ⊤
EndsOfFiles (Some file) (Some redo) file' outcome =
    EndsSoRefused (door_refusal redo.size file.size (opened file redo)) (opened file redo) (image_stored file') outcome.status outcome.last

abbrev pub EndsAtDoor : Job → (stored redos stored' : List ℕ → Option Stored) → Outcome → Type 0
EndsAtDoor (repair_of name redo plan turns) stored redos stored' outcome = EndsOfFiles (stored name) (redos redo) (stored' name) outcome
EndsAtDoor other stored redos stored' outcome = ⊤
