-- The work on a unit as long as nothing of its group was gathered ("Metadata Scrubbing").
use Rattle.std.specs.Prelude.{◌≡◌}
use Rattle.core_calls.specs.declared.answers.Moved.{Moved}
use Rattle.core_calls.specs.declared.answers.Moved.TheVariants.{At, End}
use Rattle.core_calls.specs.declared.answers.Phase.{Phase}
use Rattle.core_calls.specs.declared.answers.Phase.TheVariants as phases
use Rattle.fs_model.specs.declared.unit.Unit.{Unit as ScrubUnit}
use Rattle.fs_model.specs.declared.unit.Unit.TheVariants as units
use Rattle.core_parts.specs.declared.units.UnitState.{UnitState}
use Rattle.core_parts.specs.declared.units.Work.{Work}
use Rattle.core_parts.specs.declared.units.Work.TheVariants as works

-- a scan, the owners that it found, or nothing more to do
abbrev pub IsEarly : Work → Type 0
IsEarly (works.Scanning s) = Unit {0}
IsEarly (works.Open o) = Unit {0}
IsEarly (works.Closed o) = Unit {0}
IsEarly (works.Gathering g) = ⊥
IsEarly (works.Gathered j) = ⊥
IsEarly (works.Chosen j) = ⊥
IsEarly (works.Building r) = ⊥
IsEarly (works.Reserved r s) = ⊥
IsEarly (works.Staged r s) = ⊥
IsEarly (works.Spent r) = ⊥
IsEarly works.Judged = Unit {0}

-- the work was taken out
pub record IsTaken (old new : UnitState) : Type 0 where
  pub group : new.group ≡ old.group
  pub early : IsEarly new.work
  pub rest : new ≡ record old { work = works.Judged }

-- a scan goes on until its end
abbrev pub phase_after : Moved → Phase
phase_after (At ino) = phases.Scanning
phase_after End = phases.Open

-- what is said of units whose work begins with a scan
abbrev pub WhereScanned : ScrubUnit → Type 0 → Type 0
WhereScanned units.Inode P = Unit {0}
WhereScanned units.Rmap P = P
WhereScanned units.Free P = Unit {0}
WhereScanned units.Refc P = Unit {0}
