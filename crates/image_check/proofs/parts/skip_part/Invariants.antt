use Rattle.std.proofs.Common.{◌-◌, Ok, Some, ℕ}
use Rattle.fs_state.specs.State.{State}
use Rattle.check_phases.specs.Checks.{ChecksPhase}
use Rattle.check_phases.specs.Parts.{AddsGroups}
use Rattle.check_phases.specs.Phases.{Mappings}
use Rattle.image_check.specs.Units.{IsSkippedFor}
use Rattle.image_check.proofs.parts.skip_part.Given as goal

-- the units of the groups so far were done
abbrev pub invariant-loop-g : goal.invariant-loop-g
invariant-loop-g l = record {
  exact : (a : State) → ChecksPhase {T = Unit {0}} a Mappings (λ (h : ℕ). Some l.needed) l.fn.part.from (l.g - l.fn.part.from) l.fn.tally l.tally (Ok tt);
  added : AddsGroups {T = Unit {0}} (IsSkippedFor l.needed) l.fn.part.from (l.g - l.fn.part.from) l.fn.tally l.tally (Ok tt);
}
