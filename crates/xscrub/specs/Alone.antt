-- What a repair does with an image of which a check finds every unit good: nothing.
use Rattle.std.specs.Prelude.{◌≡◌, ⊤, ℕ, Bool, false, List, Option, Some, None, IfSome}
use Rattle.blk_device.specs.Contents.{Contents}
use Rattle.blk_device.specs.declared.device.Region.{Region}
use Rattle.blk_device.specs.declared.device.Region.TheVariants.{Image, Redo}
use Rattle.fs_model.specs.declared.entry.Entry.{Entry}
use Rattle.fs_state.specs.declared.plan.Plan.{Plan}
use Rattle.fs_state.specs.declared.plan.Plan.TheVariants as plans
use Rattle.image_hosts.specs.Stored.{Stored, opened}
use Rattle.quiet_repair.specs.Sound.{IsSoundDevice}
use Rattle.xscrub.specs.Command.{Job, repair_of}
use Rattle.xscrub.specs.Doors.{image_stored}
use Rattle.xscrub.specs.Outcome.{Outcome, judged_outcome}
use Rattle.xscrub.specs.declared.ending.Finding.{Finding}
use Rattle.xscrub.specs.declared.ending.Finding.TheVariants as findings
use Rattle.xscrub.specs.declared.ending.Status.{Status}
use Rattle.xscrub.specs.declared.ending.Status.TheVariants as statuses

-- ---- what is found

-- the device failed, or memory was short
abbrev pub FindsFailed : Finding → Type 0
FindsFailed (findings.DeviceFailed found) = ⊤
FindsFailed (findings.Memory found) = ⊤
FindsFailed finding = ⊥

-- unless something failed, this is the journal, and no btree is sick
abbrev pub FindsAlone : (journal : List Entry) → Finding → Type 0
FindsAlone journal (findings.Judged found) = ⊥
FindsAlone journal (findings.Repaired found sick) = (found.items ≡ journal) × (sick ≡ false)
FindsAlone journal (findings.Full found) = ⊥
FindsAlone journal (findings.Refused line) = ⊥
FindsAlone journal findings.Made = ⊥
FindsAlone journal findings.Usage = ⊤
FindsAlone journal (findings.DeviceFailed found) = ⊤
FindsAlone journal findings.HostFailed = ⊤
FindsAlone journal (findings.Memory found) = ⊤

-- and the device holds what it held
abbrev pub FindsStill : (m : Contents) → (new : Option Contents) → (journal : List Entry) → Finding → Type 0
FindsStill m new journal (findings.Judged found) = ⊥
FindsStill m new journal (findings.Repaired found sick) = (found.items ≡ journal) × (sick ≡ false) × (new ≡ Some m)
FindsStill m new journal (findings.Full found) = ⊥
FindsStill m new journal (findings.Refused line) = ⊥
FindsStill m new journal findings.Made = ⊥
FindsStill m new journal findings.Usage = ⊤
FindsStill m new journal (findings.DeviceFailed found) = ⊤
FindsStill m new journal findings.HostFailed = ⊤
FindsStill m new journal (findings.Memory found) = ⊤

-- of a device of which a check has a journal and finds every unit good, where that device tells what it holds; a rebuild
-- builds anew what is good, too
abbrev pub LentAlone : Plan → (old : Option Contents) → (Region → ℕ) → (new : Option Contents) → Finding → Type 0
LentAlone plans.Check old blocks new finding = ⊤
LentAlone plans.Repair old blocks new finding = IfSome old (λ m. (journal : List Entry) → IsSoundDevice blocks journal m → FindsStill m new journal finding)
LentAlone plans.Rebuild old blocks new finding = ⊤

-- ---- how a run ends

-- with the journal of that check and the image that was there; or something failed
abbrev pub EndsAlone : (journal : List Entry) → (file : Stored) → (file' : Option Stored) → Status → Outcome → Type 0
EndsAlone journal file file' statuses.Clean told = (told ≡ judged_outcome journal) × (image_stored file' ≡ Some file.at)
EndsAlone journal file file' statuses.Faulty told = ⊥
EndsAlone journal file file' statuses.Usage told = ⊤
EndsAlone journal file file' statuses.Refused told = ⊥
EndsAlone journal file file' statuses.Failed told = ⊤
EndsAlone journal file file' statuses.GaveUp told = ⊥
EndsAlone journal file file' statuses.Full told = ⊥
EndsAlone journal file file' statuses.Memory told = ⊤

-- the sizes of a device over an image and a redo file
abbrev pub sizes_of : (file redo : Stored) → Region → ℕ
sizes_of file redo Image = file.size
sizes_of file redo Redo = redo.size

-- of the image and the redo file that were stored, where the host tells both, and the image that is stored then
abbrev pub FilesAlone : (file redo file' : Option Stored) → Outcome → Type 0
FilesAlone None redo file' told = ⊤
FilesAlone (Some file) None file' told = ⊤
FilesAlone (Some file) (Some redo) file' told =
    (journal : List Entry) → IsSoundDevice (sizes_of file redo) journal (opened file redo) → EndsAlone journal file file' told.status told

abbrev pub PlanAlone : Plan → (file redo file' : Option Stored) → Outcome → Type 0
PlanAlone plans.Check file redo file' told = ⊤
PlanAlone plans.Repair file redo file' told = FilesAlone file redo file' told
PlanAlone plans.Rebuild file redo file' told = ⊤

abbrev pub StaysAlone : Job → (stored redos stored' : List ℕ → Option Stored) → Outcome → Type 0
StaysAlone (repair_of name redo plan turns) stored redos stored' told = PlanAlone plan (stored name) (redos redo) (stored' name) told
StaysAlone other stored redos stored' told = ⊤
