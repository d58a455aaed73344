-- Whether a unit passes is what the state decides.
use Rattle.std.proofs.Common.{◌≡◌, ℕ, List, Option, ap, sym, ◌∙◌, length}
use Rattle.std.specs.Prelude.{◌==◌}
use Rattle.fs_state.specs.Contradiction.{evidence}
use Rattle.fs_state.specs.Faults.{faults}
use Rattle.fs_model.specs.declared.claim.Evidence.{Evidence}
use Rattle.fs_model.specs.declared.fault.Fault.{Fault}
use Rattle.fs_model.specs.declared.unit.Unit.{Unit as ScrubUnit}
use Rattle.fs_state.specs.State.{State}
use Rattle.check_phases.specs.Entries.{passes_as, passes_by, passes_judged}
use Rattle.quiet_check.specs.Judged.{Decided, IsJudged}
use Rattle.quiet_check.specs.declared.judge.Judged.{Judged}
use Rattle.quiet_check.specs.declared.judge.Judged.TheVariants as judged

decided_passes : (found : Option Evidence) (wanted : List Fault) (j : Judged) → Decided found wanted j → passes_as j ≡ passes_by found wanted
decided_passes found wanted (judged.Faults fs) is = ap (λ (x : List Fault). length x == 0) is.1 ∙ ap (λ o. passes_by o wanted) (sym is.0)
decided_passes found wanted (judged.GaveUp e) is = ap (λ o. passes_by o wanted) (sym is)

pub passes_said : (a : State) (g : ℕ) (unit : ScrubUnit) (j : Judged) → IsJudged a g unit j → passes_as j ≡ passes_judged a g unit
unfolding passes_judged
passes_said a g unit j is = decided_passes (evidence a g unit) (faults a g unit) j is
