-- How a piece of a comparison ends, by its answer and the work that is left ("Metadata Scrubbing").
use Rattle.std.specs.Prelude.{◌≡◌, ◌⊎◌, ℕ, ◌∷◌, [], ◌++◌, Bool, true, false, List, map}
use Rattle.core_calls.specs.declared.answers.Phase.TheVariants as phases
use Rattle.core_parts.specs.Common.Entries.{HasMore, verdict_entry}
use Rattle.core_parts.specs.Phases.{phase_in}
use Rattle.core_parts.specs.declared.desk.Desk.{Desk}
use Rattle.core_parts.specs.declared.units.Work.{Work}
use Rattle.core_parts.specs.declared.units.Work.TheVariants as works
use Rattle.fs_model.specs.declared.fault.Fault.{Fault}
use Rattle.fs_model.specs.declared.unit.Unit.{Unit as ScrubUnit}
use Rattle.fs_model.specs.declared.verdict.Verdict.{Verdict}
use Rattle.fs_model.specs.declared.verdict.Verdict.TheVariants as verdicts
use Rattle.fs_state.specs.Session.{MayBeFaulty, MayBeGood}
use Rattle.fs_state.specs.declared.plan.Plan.{Plan}
use Rattle.core_check.specs.Told.{entry_of}

-- the verdicts of a comparison: good unless all is rebuilt, faulty where it is only checked
abbrev pub MayEnd : Plan → Verdict → Type 0
MayEnd plan verdicts.Good = MayBeGood plan
MayEnd plan (verdicts.Faulty found) = MayBeFaulty plan
MayEnd plan verdict = ⊥

-- no verdict comes: it goes on, or the unit is to be rebuilt
pub record EndsOpen {D : Type 0} (g : ℕ) (unit : ScrubUnit) (piece : List Fault) (old new : Desk D) (w : Work) (is_last : Bool) : Type 0 where
  pub entries : HasMore old new (map (entry_of g unit) piece)
  pub going : (is_last ≡ false) ⊎ (phase_in w ≡ phases.Building)

-- this one does, and the unit is judged
pub record EndsJudged {D : Type 0} (g : ℕ) (unit : ScrubUnit) (plan : Plan) (piece : List Fault) (old new : Desk D) (w : Work) (is_last : Bool) : Type 0 where
  pub verdict : Verdict
  pub entries : HasMore old new (map (entry_of g unit) piece ++ verdict_entry g unit verdict ∷ [])
  pub told : is_last ≡ true
  pub judged : w ≡ works.Judged
  pub fits : MayEnd plan verdict

abbrev pub EndsAs : {D : Type 0} → ℕ → ScrubUnit → Plan → (old new : Desk D) → Work → Bool → Type 0
EndsAs g unit plan old new w is_last = (piece : List Fault) × (EndsOpen g unit piece old new w is_last ⊎ EndsJudged g unit plan piece old new w is_last)
