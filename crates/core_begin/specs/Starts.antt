-- How a unit is opened, and why not ("Metadata Scrubbing").
use Rattle.std.specs.Prelude.{◌≡◌, ⊤, ℕ, false, List, Option, Some, map, slice_set}
use Rattle.std.specs.List.{slice_get}
use Rattle.core_calls.specs.declared.answers.ScrubFault.{ScrubFault}
use Rattle.core_calls.specs.declared.answers.ScrubFault.TheVariants as faults
use Rattle.core_parts.specs.Common.Kinds.{with_pass}
use Rattle.core_parts.specs.declared.groups.GroupKept.{GroupKept}
use Rattle.core_parts.specs.declared.units.UnitState.{UnitState}
use Rattle.core_parts.specs.declared.units.Work.{Work}
use Rattle.fs_model.specs.declared.unit.Unit.{Unit as ScrubUnit}
use Rattle.fs_model.specs.declared.unit.Unit.TheVariants as units
use Rattle.fs_state.specs.Lists.{numbers}
use Rattle.fs_state.specs.Session.{Place}
use Rattle.fs_state.specs.declared.plan.Plan.{Plan}

-- the unit is open in its group, and has lost no turn; those of other groups stay
pub record IsOpened (g : ℕ) (unit : ScrubUnit) (plan : Plan) (turns : ℕ) (old new : List (Option UnitState)) : Type 0 where
  pub work : Work
  pub units : new ≡ slice_set old g (Some (record { group = g; unit = unit; plan = plan; turns = turns; asked = 0; work = work }))

-- the unit doesn't count as passed any more; the trust of its group's btrees stays, and so do all other groups
pub record Clears (g : ℕ) (unit : ScrubUnit) (old new : List GroupKept) : Type 0 where
  pub before : GroupKept
  pub after : GroupKept
  pub kept : slice_get old g ≡ Some before
  pub left : new ≡ slice_set old g after
  pub trust : after.trust ≡ before.trust
  pub passed : after.passed ≡ with_pass before.passed unit false

-- why a unit isn't opened, which lacks this one: skipped is it for that one alone
abbrev pub MayBar : Option Place → ScrubFault → Type 0
MayBar lacking (faults.Skipped h u) = lacking ≡ Some (h, u)
MayBar lacking (faults.UnitOpen h u) = ⊤
MayBar lacking faults.JournalFull = ⊤
MayBar lacking faults.Memory = ⊤
MayBar lacking fault = ⊥

-- the inode units of so many groups
abbrev pub inodes_from : ℕ → ℕ → List Place
inodes_from g n = map (λ h. (h, units.Inode)) (numbers g n)
