-- What is found of a device, by the image that it holds.
use Rattle.std.specs.Prelude.{◌≡◌, ℕ, List, Bool, true, false, Option, Result, Ok, Err, IfSome}
use Rattle.std.specs.Global.{Vec}
use Rattle.std.specs.List.{list_all}
use Rattle.ag_headers.specs.declared.fault.HeadFault.{HeadFault}
use Rattle.blk_device.specs.Causes.{HasCause}
use Rattle.blk_device.specs.Contents.{Contents}
use Rattle.blk_device.specs.declared.device.Region.{Region}
use Rattle.blk_device.specs.declared.device.Region.TheVariants.{Image, Redo}
use Rattle.blk_device.specs.Taken.{IsFront}
use Rattle.fs_model.specs.declared.entry.Entry.{Entry}
use Rattle.fs_model.specs.declared.unit.Head.{Head}
use Rattle.image_check.specs.Image.{ReadsForEvents}
use Rattle.space_check.specs.declared.halt.Halt.TheVariants as halts
use Rattle.space_check.specs.declared.stop.CheckStop.{CheckStop}
use Rattle.xscrub.specs.Image.{device_events, device_outcome, image_events, image_outcome}
use Rattle.xscrub.specs.Outcome.{Outcome, judged_outcome, filled_outcome, ended_outcome, is_calm, is_image_line, is_refusal}
use Rattle.xscrub.specs.Units.{HasAllUnits, HasItsMost}
use Rattle.xscrub.specs.declared.ending.Status.TheVariants as statuses
use Rattle.xscrub.specs.declared.judging.JudgeFault.{JudgeFault}
use Rattle.xscrub.specs.declared.judging.JudgeFault.TheVariants.{Device, Memory}
use Rattle.xscrub.specs.declared.judging.Judgement.{Judgement}
use Rattle.xscrub.specs.declared.judging.Judgement.TheVariants.{Judged, Full, Refused}
use Rattle.xscrub.specs.declared.last_lines.LastLine.TheVariants as lines

abbrev pub judgement_outcome : Judgement → Outcome
judgement_outcome (Judged journal) = judged_outcome journal.items
judgement_outcome (Full journal) = filled_outcome journal.items
judgement_outcome (Refused line) = ended_outcome statuses.Refused line

-- a journal has the units of all groups, or its most entries of them; a refusal has a line that
-- tells of an image
abbrev pub TellsOfImage : Judgement → Type 0
TellsOfImage (Judged journal) = HasAllUnits journal.items
TellsOfImage (Full journal) = HasItsMost journal.items
TellsOfImage (Refused line) = is_image_line line ≡ true

-- it is what the image's bytes decide, where the device tells them
abbrev pub IsJudged : Option Contents → ℕ → Judgement → Type 0
IsJudged content size found = IfSome content (λ m. judgement_outcome found ≡ image_outcome size (m Image))

-- all units of all groups were judged, and no verdict speaks against the image
abbrev pub is_clean : Judgement → Bool
is_clean (Judged journal) = list_all is_calm journal.items
is_clean (Full journal) = false
is_clean (Refused line) = false

-- this answer is one that ends a check with 0
abbrev pub IsJudgedClean : Result Judgement JudgeFault → Type 0
IsJudgedClean (Ok found) = (judgement_outcome found).status ≡ statuses.Clean
IsJudgedClean (Err fault) = ⊥

-- the journal so far of a judgement that was stopped
abbrev pub journal_at : JudgeFault → List Entry
journal_at (Device journal) = journal.items
journal_at (Memory journal) = journal.items

-- the journal that goes with an answer
abbrev pub journal_in : Result Judgement JudgeFault → List Entry
journal_in (Ok found) = (judgement_outcome found).journal
journal_in (Err fault) = journal_at fault

abbrev pub is_device : JudgeFault → Bool
is_device (Device journal) = true
is_device (Memory journal) = false

-- a failed device is told only where its count rose, and no other answer moves the count
abbrev pub JudgeCause : {T : Type 0} → ℕ → ℕ → Result T JudgeFault → Type 0
JudgeCause before now result = HasCause is_device before now result

-- an answer has what was judged by all that was read, where the device tells its content
abbrev pub ReadsForImage : Option Contents → ℕ → (before now : ℕ) → Result Judgement JudgeFault → Type 0
ReadsForImage content size before now result = IfSome content (λ m. ReadsForEvents (image_events size (m Image)) before now (journal_in result))

-- and that journal is a front of the one that the image decides
abbrev pub HasFrontOf : Option Contents → ℕ → JudgeFault → Type 0
HasFrontOf content size fault = IfSome content (λ m. IsFront (journal_at fault) (image_outcome size (m Image)).journal)

-- ---- the answer of a check of the groups, told as a judgement

abbrev pub SaysStop : CheckStop → Result Judgement JudgeFault → Type 0
SaysStop stop (Ok (Judged journal)) = ⊥
SaysStop stop (Ok (Full journal)) = (stop.cause ≡ halts.Full) × (journal ≡ stop.journal)
SaysStop stop (Ok (Refused line)) = (g : ℕ) × (head : Head) × (fault : HeadFault) × (stop.cause ≡ halts.Head g head fault) × (line ≡ lines.Head g head fault)
SaysStop stop (Err (Device journal)) = (stop.cause ≡ halts.Failed) × (journal ≡ stop.journal)
SaysStop stop (Err (Memory journal)) = (stop.cause ≡ halts.Memory) × (journal ≡ stop.journal)

abbrev pub Says : Result (Vec Entry) CheckStop → Result Judgement JudgeFault → Type 0
Says (Ok journal) (Ok (Judged told)) = told ≡ journal
Says (Ok journal) (Ok (Full told)) = ⊥
Says (Ok journal) (Ok (Refused line)) = ⊥
Says (Ok journal) (Err fault) = ⊥
Says (Err stop) result = SaysStop stop result

-- ---- of a device whose redo file is looked at where one is given

abbrev pub TellsOfDevice : Bool → Judgement → Type 0
TellsOfDevice given (Judged journal) = HasAllUnits journal.items
TellsOfDevice given (Full journal) = HasItsMost journal.items
TellsOfDevice given (Refused line) = is_refusal given line ≡ true

abbrev pub IsDeviceJudged : Bool → Option Contents → (Region → ℕ) → Judgement → Type 0
IsDeviceJudged given content blocks found = IfSome content (λ m. judgement_outcome found ≡ device_outcome given (blocks Redo) (blocks Image) m)

abbrev pub HasDeviceFront : Bool → Option Contents → (Region → ℕ) → JudgeFault → Type 0
HasDeviceFront given content blocks fault = IfSome content (λ m. IsFront (journal_at fault) (device_outcome given (blocks Redo) (blocks Image) m).journal)

abbrev pub ReadsForDevice : Bool → Option Contents → (Region → ℕ) → (before now : ℕ) → Result Judgement JudgeFault → Type 0
ReadsForDevice given content blocks before now result = IfSome content (λ m. ReadsForEvents (device_events given (blocks Redo) (blocks Image) m) before now (journal_in result))
