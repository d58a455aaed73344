-- Whether a unit passes: it is judged, and has no fault.
use Rattle.std.specs.Prelude.{ℕ, ◌==◌, Bool, false, List, length, Option, Some, None}
use Rattle.fs_state.specs.Contradiction.{evidence}
use Rattle.fs_state.specs.Faults.{faults}
use Rattle.fs_state.specs.Session.{Place}
use Rattle.fs_model.specs.declared.claim.Evidence.{Evidence}
use Rattle.fs_model.specs.declared.fault.Fault.{Fault}
use Rattle.fs_model.specs.declared.unit.Unit.{Unit as ScrubUnit}
use Rattle.fs_state.specs.State.{State}
use Rattle.quiet_check.specs.declared.judge.Judged.{Judged}
use Rattle.quiet_check.specs.declared.judge.Judged.TheVariants as judged

abbrev pub passes_by : Option Evidence → List Fault → Bool
passes_by (Some found) wanted = false
passes_by None wanted = length wanted == 0

unfoldable pub passes_judged : State → ℕ → ScrubUnit → Bool
passes_judged a g unit = passes_by (evidence a g unit) (faults a g unit)

-- where it is skipped for this unit, or isn't skipped
abbrev pub passes_after : State → ℕ → ScrubUnit → Option Place → Bool
passes_after a g unit (Some place) = false
passes_after a g unit None = passes_judged a g unit

-- as the code has it
abbrev pub passes_as : Judged → Bool
passes_as (judged.Faults found) = length found.items == 0
passes_as (judged.GaveUp found) = false
