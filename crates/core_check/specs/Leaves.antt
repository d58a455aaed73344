-- What a piece leaves of the desk and of the unit's work.
use Rattle.std.specs.Prelude.{◌≡◌, ℕ, IfOk}
use Rattle.blk_device.specs.declared.device.Device.{Ghosts}
use Rattle.core_parts.specs.Keeps.{IsSteady}
use Rattle.core_parts.specs.Phases.{phase_in}
use Rattle.core_parts.specs.Reasons.{AnswersWell}
use Rattle.core_parts.specs.Safe.{IsDesk, IsWork}
use Rattle.core_parts.specs.declared.desk.Desk.{Desk}
use Rattle.geom.specs.Places.{layout}
use Rattle.core_check.specs.Ends.{IsCompared}
use Rattle.core_check.specs.Gathers.{after_gathering}
use Rattle.core_check.specs.declared.work.Left.{Left}

-- the desk is in order and the journal longer, the work is fit for the next event, and a refusal has its reason
pub record Leaves {D : Type 0} (d : Ghosts D) (old new : Desk D) (g : ℕ) (left : Left) : Type 0 where
  pub desk : IsDesk d new
  pub steady : IsSteady d old new
  pub work : IsWork (layout new.store.geo) g left.work
  pub reason : AnswersWell new left.answer

-- the phase after a piece of the gathering, and after one of the comparison
abbrev pub IsGathered : Left → Type 0
IsGathered left = IfOk left.answer (λ is_whole. phase_in left.work ≡ after_gathering is_whole)

abbrev pub IsComparedBy : Left → Type 0
IsComparedBy left = IfOk left.answer (λ is_last. IsCompared is_last (phase_in left.work))
