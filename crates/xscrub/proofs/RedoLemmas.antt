-- A redo file that a check looks at.
use Rattle.std.proofs.Common.{◌≡◌, ◌<◌, ◌≤◌, ◌+◌, ℕ, List, [], Bool, true, false, Option, Some, None, Result, Ok, Err, IfSome, refl, sym, ◌∙◌, ap, subst, arith}
use Rattle.std.specs.Prelude.{nat_lt, if◌then◌else◌}
use Rattle.std.proofs.lemmas.Bool.Decides.{nat_tests}
use Rattle.blk_device.specs.Contents.{Contents}
use Rattle.blk_device.specs.Taken.{IsFront}
use Rattle.blk_device.specs.declared.device.Region.{Region}
use Rattle.blk_device.specs.declared.device.Region.TheVariants.{Image, Redo}
use Rattle.fs_model.specs.declared.entry.Entry.{Entry}
use Rattle.image_check.specs.Image.{ReadsForEvents}
use Rattle.redo_area.specs.Area.{is_open}
use Rattle.redo_area.specs.declared.TheConstants.{REDO_BLOCKS}
use Rattle.space_check.specs.Events.{Event}
use Rattle.xscrub.specs.Image.{behind_gate, behind_redo, device_outcome, image_events, image_outcome, redo_refusal}
use Rattle.xscrub.specs.Judged.{HasDeviceFront, HasFrontOf, IsDeviceJudged, IsJudged, ReadsForImage, ReadsForDevice, TellsOfDevice, TellsOfImage, journal_at, journal_in}
use Rattle.xscrub.specs.Outcome.{is_image_line, is_refusal}
use Rattle.xscrub.specs.declared.judging.JudgeFault.{JudgeFault}
use Rattle.xscrub.specs.declared.judging.Judgement.{Judgement}
use Rattle.xscrub.specs.declared.judging.Judgement.TheVariants.{Judged, Full, Refused}
use Rattle.xscrub.specs.declared.last_lines.LastLine.{LastLine}
use Rattle.xscrub.specs.declared.last_lines.LastLine.TheVariants as lines
use Rattle.xscrub.specs.declared.last_lines.RedoRefusal.{RedoRefusal}
use Rattle.xscrub.specs.declared.last_lines.RedoRefusal.TheVariants.{Short, Waiting}
use Rattle.xscrub.proofs.SaysLemmas.{kept_behind, kept_first_block, kept_none, kept_unread}

is_below : (n most : ℕ) → nat_lt n most ≡ true → n < most
is_below n most h = grind (arith, nat_tests)

abbrev refusal_by : Bool → Bool → Option RedoRefusal
refusal_by short waits = if short then Some Short else (if waits then Some Waiting else None)

-- ---- what is told of it

pub refused_told : (content : Option Contents) (blocks : Region → ℕ) (refusal : RedoRefusal) → IfSome content (λ m. Some refusal ≡ redo_refusal (blocks Redo) m)
    → IsDeviceJudged true content blocks (Refused (lines.Redo refusal))
refused_told None blocks refusal seen = tt
refused_told (Some m) blocks refusal seen = ap (λ (r : Option RedoRefusal). behind_redo r (image_outcome (blocks Image) (m Image))) seen

pub passed_told : (content : Option Contents) (blocks : Region → ℕ) (found : Judgement) → IfSome content (λ m. None ≡ redo_refusal (blocks Redo) m) → IsJudged content (blocks Image) found
    → IsDeviceJudged true content blocks found
passed_told None blocks found seen told = tt
passed_told (Some m) blocks found seen told = told ∙ ap (λ (r : Option RedoRefusal). behind_redo r (image_outcome (blocks Image) (m Image))) seen

pub passed_front : (content : Option Contents) (blocks : Region → ℕ) (fault : JudgeFault) → IfSome content (λ m. None ≡ redo_refusal (blocks Redo) m) → HasFrontOf content (blocks Image) fault
    → HasDeviceFront true content blocks fault
passed_front None blocks fault seen front = tt
passed_front (Some m) blocks fault seen front =
    subst (λ (r : Option RedoRefusal). IsFront (journal_at fault) (behind_redo r (image_outcome (blocks Image) (m Image))).journal) seen front

pub failed_front : (content : Option Contents) (blocks : Region → ℕ) (fault : JudgeFault) → journal_at fault ≡ [] → HasDeviceFront true content blocks fault
failed_front None blocks fault none = tt
failed_front (Some m) blocks fault none =
    subst (λ (js : List Entry). IsFront js (device_outcome true (blocks Redo) (blocks Image) m).journal) (sym none) ((device_outcome true (blocks Redo) (blocks Image) m).journal, refl)

image_refuses : (given : Bool) (line : LastLine) → is_image_line line ≡ true → is_refusal given line ≡ true
image_refuses given lines.Usage is = is
image_refuses given lines.Unbuilt is = is
image_refuses given (lines.Redo refusal) is = absurd (clash is)
  where
    clash : false ≡ true → ⊥
    clash e = cc
image_refuses given (lines.Batch refusal) is = is
image_refuses given (lines.Image fault) is = is
image_refuses given (lines.Head group head fault) is = is
image_refuses given lines.DeviceFailed is = is
image_refuses given lines.HostFailed is = is
image_refuses given lines.JournalFull is = is
image_refuses given lines.Memory is = is

pub told_device : (given : Bool) (found : Judgement) → TellsOfImage found → TellsOfDevice given found
told_device given (Judged journal) is = is
told_device given (Full journal) is = is
told_device given (Refused line) is = image_refuses given line is

-- ---- and what was read for it

pub passed_kept : (content : Option Contents) (blocks : Region → ℕ) (result : Result Judgement JudgeFault) (before mid now : ℕ) → mid ≤ before + 1 → IfSome content (λ m. None ≡ redo_refusal (blocks Redo) m)
    → ReadsForImage content (blocks Image) mid now result → ReadsForDevice true content blocks before now result
passed_kept None blocks result before mid now one seen kept = tt
passed_kept (Some m) blocks result before mid now one seen kept =
    subst (λ (r : Option RedoRefusal). ReadsForEvents (behind_gate r (image_events (blocks Image) (m Image))) before now (journal_in result)) seen
    (kept_behind (image_events (blocks Image) (m Image)) before mid now (journal_in result) one kept)

unread_kept : (before now : ℕ) → now ≡ before → ReadsForEvents [] before now []
unread_kept before now same = subst (λ (n : ℕ). ReadsForEvents [] before n []) (sym same) (kept_unread [] before)

pub refused_kept : (content : Option Contents) (blocks : Region → ℕ) (refusal : RedoRefusal) (before now : ℕ) → now ≤ before + 1 → (Some refusal ≡ Some Short → now ≡ before)
    → IfSome content (λ m. Some refusal ≡ redo_refusal (blocks Redo) m) → ReadsForDevice true content blocks before now (Ok (Refused (lines.Redo refusal)))
refused_kept None blocks refusal before now one unread seen = tt
refused_kept (Some m) blocks Short before now one unread seen =
    subst (λ (r : Option RedoRefusal). ReadsForEvents (behind_gate r (image_events (blocks Image) (m Image))) before now []) seen (unread_kept before now (unread refl))
refused_kept (Some m) blocks Waiting before now one unread seen =
    subst (λ (r : Option RedoRefusal). ReadsForEvents (behind_gate r (image_events (blocks Image) (m Image))) before now []) seen (kept_first_block [] before now one)

pub failed_kept : (content : Option Contents) (blocks : Region → ℕ) (fault : JudgeFault) (before now : ℕ) → journal_at fault ≡ [] → now ≤ before + 1 → (blocks Redo < REDO_BLOCKS → now ≡ before)
    → ReadsForDevice true content blocks before now (Err fault)
failed_kept None blocks fault before now none one unread = tt
failed_kept (Some m) blocks fault before now none one unread =
    subst (λ (js : List Entry). ReadsForEvents (behind_gate (redo_refusal (blocks Redo) m) (image_events (blocks Image) (m Image))) before now js) (sym none)
    (by_tests (image_events (blocks Image) (m Image)) (nat_lt (blocks Redo) REDO_BLOCKS) (is_open m) (λ short. unread (is_below (blocks Redo) REDO_BLOCKS short)))
  where
    by_tests : (events : List Event) (short waits : Bool) → (short ≡ true → now ≡ before) → ReadsForEvents (behind_gate (refusal_by short waits) events) before now []
    by_tests events true waits still = unread_kept before now (still refl)
    by_tests events false true still = kept_none [] before now one
    by_tests events false false still = kept_none events before now one
