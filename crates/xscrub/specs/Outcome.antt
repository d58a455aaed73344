-- How a run ends: its status, its journal, and the line that comes last.
use Rattle.std.specs.Prelude.{ℕ, Bool, true, false, if◌then◌else◌, List, [], Option, Some, None}
use Rattle.std.specs.List.{list_all, list_any}
use Rattle.fs_model.specs.declared.entry.Entry.{Entry}
use Rattle.fs_model.specs.declared.entry.Entry.TheVariants as entries
use Rattle.fs_model.specs.declared.verdict.Verdict.{Verdict}
use Rattle.fs_model.specs.declared.verdict.Verdict.TheVariants as verdicts
use Rattle.xscrub.specs.declared.ending.Finding.{Finding}
use Rattle.xscrub.specs.declared.ending.Finding.TheVariants as findings
use Rattle.xscrub.specs.declared.ending.Status.{Status}
use Rattle.xscrub.specs.declared.ending.Status.TheVariants as statuses
use Rattle.xscrub.specs.declared.last_lines.LastLine.{LastLine}
use Rattle.xscrub.specs.declared.last_lines.LastLine.TheVariants as lines
use Rattle.xscrub.specs.declared.last_lines.RedoRefusal.TheVariants as redos

pub record Outcome : Type 0 where
  pub status : Status
  pub journal : List Entry
  pub last : Option LastLine

-- the number that the process ends with
abbrev pub code_of : Status → ℕ
code_of statuses.Clean = 0
code_of statuses.Faulty = 1
code_of statuses.Usage = 2
code_of statuses.Refused = 4
code_of statuses.Failed = 5
code_of statuses.GaveUp = 6
code_of statuses.Full = 7
code_of statuses.Memory = 8

-- the verdict doesn't speak against the image
abbrev pub is_calm_verdict : Verdict → Bool
is_calm_verdict verdicts.Good = true
is_calm_verdict (verdicts.Faulty n) = false
is_calm_verdict verdicts.Rebuilt = true
is_calm_verdict (verdicts.Skipped of cause) = false
is_calm_verdict (verdicts.GaveUp reason) = false

-- the entry is no verdict that speaks against the image
abbrev pub is_calm : Entry → Bool
is_calm (entries.Verdict group unit verdict) = is_calm_verdict verdict
is_calm entry = true

-- the verdict gives its unit up
abbrev pub is_given_up_verdict : Verdict → Bool
is_given_up_verdict verdicts.Good = false
is_given_up_verdict (verdicts.Faulty n) = false
is_given_up_verdict verdicts.Rebuilt = false
is_given_up_verdict (verdicts.Skipped of cause) = false
is_given_up_verdict (verdicts.GaveUp reason) = true

-- the entry is a verdict that gives its unit up
abbrev pub is_given_up : Entry → Bool
is_given_up (entries.Verdict group unit verdict) = is_given_up_verdict verdict
is_given_up entry = false

-- clean where no verdict speaks against the image; else given up where a unit was, and faulty where none was
abbrev pub judged_status : List Entry → Status
judged_status journal =
    if list_all is_calm journal then statuses.Clean
    else (if list_any is_given_up journal then statuses.GaveUp else statuses.Faulty)

abbrev pub judged_outcome : List Entry → Outcome
judged_outcome journal = record { status = judged_status journal; journal = journal; last = None }

-- of a repair: also faulty where a btree is sick at the end
abbrev pub repaired_status : (sick : Bool) → List Entry → Status
repaired_status true journal = if list_any is_given_up journal then statuses.GaveUp else statuses.Faulty
repaired_status false journal = judged_status journal

abbrev pub repaired_outcome : Bool → List Entry → Outcome
repaired_outcome sick journal = record { status = repaired_status sick journal; journal = journal; last = None }

-- an end before the last unit, with the journal so far and a line that says why
abbrev pub stopped_outcome : Status → List Entry → LastLine → Outcome
stopped_outcome status journal line = record { status = status; journal = journal; last = Some line }

-- a journal that was full before the last unit
abbrev pub filled_outcome : List Entry → Outcome
filled_outcome journal = stopped_outcome statuses.Full journal lines.JournalFull

-- an end before the first unit
abbrev pub ended_outcome : Status → LastLine → Outcome
ended_outcome status line = stopped_outcome status [] line

-- a new image that was written
abbrev pub made_outcome : Outcome
made_outcome = record { status = statuses.Clean; journal = []; last = None }

-- a line that tells of an image
abbrev pub is_image_line : LastLine → Bool
is_image_line (lines.Image fault) = true
is_image_line (lines.Head group head fault) = true
is_image_line lines.Usage = false
is_image_line lines.Unbuilt = false
is_image_line (lines.Redo refusal) = false
is_image_line (lines.Batch refusal) = false
is_image_line lines.DeviceFailed = false
is_image_line lines.HostFailed = false
is_image_line lines.JournalFull = false
is_image_line lines.Memory = false

-- a line that tells of an image, or of the redo file that was given beside it
abbrev pub is_refusal : Bool → LastLine → Bool
is_refusal given (lines.Redo refusal) = given
is_refusal given line = is_image_line line

-- a line that refuses a repair: of the image, of the redo file, or of the change that waits in it
abbrev pub is_no_repair : LastLine → Bool
is_no_repair (lines.Redo redos.Short) = true
is_no_repair (lines.Redo redos.Waiting) = false
is_no_repair (lines.Batch refusal) = true
is_no_repair line = is_image_line line

abbrev pub outcome_of : Finding → Outcome
outcome_of (findings.Judged journal) = judged_outcome journal.items
outcome_of (findings.Repaired journal sick) = repaired_outcome sick journal.items
outcome_of (findings.Full journal) = filled_outcome journal.items
outcome_of (findings.Refused line) = ended_outcome statuses.Refused line
outcome_of findings.Made = made_outcome
outcome_of findings.Usage = ended_outcome statuses.Usage lines.Usage
outcome_of (findings.DeviceFailed journal) = stopped_outcome statuses.Failed journal.items lines.DeviceFailed
outcome_of findings.HostFailed = ended_outcome statuses.Failed lines.HostFailed
outcome_of (findings.Memory journal) = stopped_outcome statuses.Memory journal.items lines.Memory
