-- How far the units are ("Metadata Scrubbing", "Metadata Repair").
use Rattle.std.specs.Prelude.{Option, Some, None}
use Rattle.core_calls.specs.declared.answers.Phase.{Phase}
use Rattle.core_calls.specs.declared.answers.Phase.TheVariants as phases
use Rattle.core_parts.specs.declared.units.UnitState.{UnitState}
use Rattle.core_parts.specs.declared.units.Work.{Work}
use Rattle.core_parts.specs.declared.units.Work.TheVariants as works

abbrev pub phase_in : Work → Phase
phase_in (works.Scanning s) = phases.Scanning
phase_in (works.Open o) = phases.Open
phase_in (works.Closed o) = phases.Closed
phase_in (works.Gathering g) = phases.Closed
phase_in (works.Gathered j) = phases.Gathered
phase_in (works.Chosen j) = phases.Building
phase_in (works.Building r) = phases.Building
phase_in (works.Reserved r s) = phases.Reserved
phase_in (works.Staged r s) = phases.Staged
phase_in (works.Spent r) = phases.Judged
phase_in works.Judged = phases.Judged

-- the phase of the unit that is open in a group
abbrev pub phase_at : Option UnitState → Phase
phase_at None = phases.Idle
phase_at (Some u) = phase_in u.work
