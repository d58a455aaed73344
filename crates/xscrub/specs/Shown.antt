-- What a sink took of a journal and of the line behind it.
use Rattle.std.specs.Prelude.{◌≡◌, ◌<◌, ◌≤◌, ℕ, List, [], ◌++◌, length, take, Option, Some, None, ◌⊎◌, false}
use Rattle.blk_device.specs.Causes.{Rose}
use Rattle.blk_device.specs.Taken.{Takes, TakesFront}
use Rattle.run_text.specs.Report.{report_of}
use Rattle.xscrub.specs.LastLines.{last_line_of, is_fixed}
use Rattle.fs_model.specs.declared.entry.Entry.{Entry}
use Rattle.xscrub.specs.declared.ending.Status.{Status}
use Rattle.xscrub.specs.declared.ending.Status.TheVariants as statuses
use Rattle.xscrub.specs.declared.last_lines.LastLine.{LastLine}
use Rattle.xscrub.specs.declared.last_lines.LastLine.TheVariants as lines
use Rattle.xscrub.specs.declared.telling.TellStop.{TellStop}
use Rattle.xscrub.specs.declared.telling.TellStop.TheVariants as stops

abbrev pub last_text : Option LastLine → List ℕ
last_text None = []
last_text (Some line) = last_line_of line

-- a front of the first bytes, and then a front of the second
abbrev pub TakesFronts : List ℕ → List ℕ → Option (List ℕ) → Option (List ℕ) → Type 0
TakesFronts first second old new = (mid : Option (List ℕ)) × (TakesFront first old mid × TakesFront second mid new)

-- of these bytes the sink took a front, and the others are gathered
abbrev pub Gathers : (bytes gathered : List ℕ) → (taken taken' : Option (List ℕ)) → Type 0
Gathers bytes gathered taken taken' = (front : List ℕ) × (bytes ≡ front ++ gathered) × Takes front taken taken'

-- why the telling of a journal stopped, and what the sink had taken then
abbrev pub StopsAt : List Entry → (faults faults' : ℕ) → (taken taken' : Option (List ℕ)) → TellStop → Type 0
StopsAt journal faults faults' taken taken' stops.Sink = (0 < length journal) × Rose faults faults' × TakesFront (report_of journal) taken taken'
StopsAt journal faults faults' taken taken' (stops.Memory told) =
    (told < length journal) × (faults' ≡ faults) × Takes (report_of (take told journal)) taken taken'

-- the sink took this line, all of it where it didn't fail
pub record IsLineShown (text : List ℕ) (faults faults' : ℕ) (taken taken' : Option (List ℕ)) : Type 0 where
  pub later : faults ≤ faults'
  pub whole : (Rose faults faults' → ⊥) → Takes text taken taken'
  pub front : TakesFront text taken taken'

-- a run ended with this line or, where there was no memory for it, with the one that says so
abbrev pub EndsWith : (status : Status) (journal : List Entry) (last : LastLine) (status' : Status) (journal' : List Entry) (last' : Option LastLine) → Type 0
EndsWith status journal last status' journal' last' =
    (journal' ≡ journal)
    × (((status' ≡ status) × (last' ≡ Some last)) ⊎ ((status' ≡ statuses.Memory) × (last' ≡ Some lines.Memory) × (is_fixed last ≡ false)))
