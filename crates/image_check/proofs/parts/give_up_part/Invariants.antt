use Rattle.std.proofs.Common.{◌≡◌, ◌-◌, Ok, Some}
use Rattle.fs_state.specs.Contradiction.{first_bad_fork}
use Rattle.fs_state.specs.State.{State}
use Rattle.check_phases.specs.Checks.{ChecksPhase}
use Rattle.check_phases.specs.Parts.{AddsGroups}
use Rattle.check_phases.specs.Phases.{Mappings, lacks_nothing}
use Rattle.image_check.specs.Units.{IsMappingPart}
use Rattle.image_check.proofs.parts.give_up_part.Given as goal

-- the units of the groups so far were done
abbrev pub invariant-loop-g : goal.invariant-loop-g
invariant-loop-g l = record {
  exact : (a : State) → first_bad_fork a ≡ Some l.evidence → ChecksPhase {T = Unit {0}} a Mappings lacks_nothing l.fn.part.from (l.g - l.fn.part.from) l.fn.tally l.tally (Ok tt);
  added : AddsGroups {T = Unit {0}} IsMappingPart l.fn.part.from (l.g - l.fn.part.from) l.fn.tally l.tally (Ok tt);
}
