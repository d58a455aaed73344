-- What a part of a check adds to a journal, whether the device tells its content or not: each unit is judged, with its
-- faults or with the evidence for which it is given up, or it is skipped for a unit that it needs. How many blocks are
-- read isn't told then, and stands as 0.
use Rattle.std.specs.Prelude.{◌≡◌, ℕ, zero, suc, ◌+◌, ◌-◌, ◌⊎◌, List, [], ◌∷◌, ◌++◌, Result}
use Rattle.fs_state.specs.Session.{Place}
use Rattle.fs_model.specs.declared.claim.Evidence.{Evidence}
use Rattle.fs_model.specs.declared.claim.Evidence.TheVariants.{BadTree}
use Rattle.fs_model.specs.declared.fault.Fault.{Fault}
use Rattle.fs_model.specs.declared.unit.Unit.{Unit as ScrubUnit}
use Rattle.fs_model.specs.declared.unit.Unit.TheVariants as units
use Rattle.fs_model.specs.declared.verdict.Reason.TheVariants.{Contradiction}
use Rattle.fs_model.specs.declared.verdict.Verdict.{Verdict}
use Rattle.fs_model.specs.declared.verdict.Verdict.TheVariants.{GaveUp, Skipped}
use Rattle.sblock.specs.declared.kind.Kind.TheVariants.{Rmap}
use Rattle.space_check.specs.Events.{Event, Does}
use Rattle.space_check.specs.Groups.{event, verdict_entries}
use Rattle.space_check.specs.Session.{unit_event}
use Rattle.space_check.specs.declared.halt.Halt.{Halt}
use Rattle.check_phases.specs.Checks.{reached}
use Rattle.check_phases.specs.declared.part.Part.{Part}
use Rattle.check_phases.specs.declared.tally.Tally.{Tally}

abbrev pub gave_up_event : ℕ → ScrubUnit → Evidence → Event
gave_up_event g unit evidence = event 0 (verdict_entries g unit (GaveUp (Contradiction evidence)))

abbrev pub skipped_event : ℕ → ScrubUnit → (needed : ℕ) → ScrubUnit → Event
skipped_event g unit needed which = event 0 (verdict_entries g unit (Skipped needed which))

-- a unit that is judged: it has these faults, or it is given up for this evidence
abbrev pub IsJudgedEvent : ℕ → ScrubUnit → Event → Type 0
IsJudgedEvent g unit e = ((faults : List Fault) × (e ≡ unit_event g unit faults)) ⊎ ((evidence : Evidence) × (e ≡ gave_up_event g unit evidence))

-- for each of the first n groups one such part, in the groups' order
abbrev pub AreParts : (ℕ → List Event → Type 0) → ℕ → List Event → Type 0
AreParts Are zero events = events ≡ []
AreParts Are (suc n) events = (before : List Event) × (last : List Event) × AreParts Are n before × Are n last × (events ≡ before ++ last)

-- one unit of a group is judged
abbrev pub IsJudgedPart : ℕ → ScrubUnit → List Event → Type 0
IsJudgedPart g unit events = (e : Event) × IsJudgedEvent g unit e × (events ≡ e ∷ [])

-- the inodes of a group are judged
abbrev pub IsInodePart : ℕ → List Event → Type 0
IsInodePart g events = IsJudgedPart g units.Inode events

-- free space and reference counts of a group are judged
pub record AreJudged (g : ℕ) (events : List Event) : Type 0 where
  pub free : Event
  pub counts : Event
  pub free_judged : IsJudgedEvent g units.Free free
  pub counts_judged : IsJudgedEvent g units.Refc counts
  pub both : events ≡ free ∷ counts ∷ []

-- both get this verdict, without a fault before it
abbrev pub HaveVerdict : Verdict → ℕ → List Event → Type 0
HaveVerdict verdict g events = events ≡ event 0 (verdict_entries g units.Free verdict) ∷ event 0 (verdict_entries g units.Refc verdict) ∷ []

-- both are skipped for this unit
abbrev pub AreSkipped : Place → ℕ → List Event → Type 0
AreSkipped needed g events = HaveVerdict (Skipped needed.0 needed.1) g events

-- both are given up for this block of the reverse mappings
abbrev pub AreGivenUp : ℕ → ℕ → List Event → Type 0
AreGivenUp block g events = HaveVerdict (GaveUp (Contradiction (BadTree Rmap block))) g events

-- free space and reference counts of a group are judged, or both are skipped for its reverse mappings
abbrev pub IsSpacePart : ℕ → List Event → Type 0
IsSpacePart g events = AreJudged g events ⊎ AreSkipped (g, units.Rmap) g events

-- ---- steps of the check

-- such events were added to a journal; or the first of them, and the next one ended the check
pub record AddsPart {T : Type 0} (Are : List Event → Type 0) (before after : Tally) (result : Result T Halt) : Type 0 where
  pub events : List Event
  pub are : Are events
  pub added : Does events (reached before) (reached after) result

-- those of n groups from group g on
abbrev pub AddsGroups : {T : Type 0} → (ℕ → List Event → Type 0) → (g n : ℕ) → (before after : Tally) → Result T Halt → Type 0
AddsGroups Are g n before after result = AddsPart (AreParts (λ i. Are (g + i)) n) before after result

-- those of these groups
abbrev pub AddsParts : {T : Type 0} → (ℕ → List Event → Type 0) → Part → (before after : Tally) → Result T Halt → Type 0
AddsParts Are part before after result = AddsGroups Are part.from (part.to - part.from) before after result
