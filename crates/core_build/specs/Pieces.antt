-- What the parts of a rebuild's piece keep, and what they answer.
use Rattle.std.specs.Prelude.{◌≡◌, ◌≤◌, ◌+◌, ℕ, ⊤, Bool, true, false, Option, Some, None, Result, Ok, Err}
use Rattle.std.specs.Vec.{vec_capacity, vec_len}
use Rattle.blk_device.specs.declared.device.Device.{Ghosts}
use Rattle.geom.specs.Layout.{Layout}
use Rattle.core_calls.specs.declared.answers.ScrubFault.{ScrubFault}
use Rattle.core_calls.specs.declared.answers.ScrubFault.TheVariants as faults
use Rattle.core_parts.specs.Common.Asks.{IsUsable}
use Rattle.core_parts.specs.Keeps.{IsSteady}
use Rattle.core_parts.specs.declared.desk.Desk.{Desk}
use Rattle.core_parts.specs.declared.units.Work.{Work}
use Rattle.core_parts.specs.declared.units.Work.TheVariants as works
use Rattle.core_units.specs.Rebuilt.{IsReady, IsRebuilding}
use Rattle.core_units.specs.Rebuilt.{IsSteady as IsSteadyBuild}
use Rattle.core_units.specs.Staged.{IsAt}
use Rattle.core_units.specs.declared.rebuild.Rebuild.{Rebuild}
use Rattle.core_units.specs.declared.released.Staged.{Staged}
use Rattle.core_units.specs.declared.stage.Staging.{Staging}
use Rattle.core_units.specs.declared.stage.Staging.TheVariants.{First}

-- no other refusal than for memory
abbrev pub IfMemory : {T : Type 0} → Result T ScrubFault → Type 0
IfMemory (Ok answer) = ⊤
IfMemory (Err fault) = fault ≡ faults.Memory

-- the journal, and what is noted of the device's faults, stay
abbrev pub BookStays : {D : Type 0} → (old new : Desk D) → Type 0
BookStays old new = new.book ≡ old.book

-- a rebuild stays one, of the same group
pub record KeepsBuild (old new : Rebuild) : Type 0 where
  pub length : new.length ≡ old.length
  pub steady : IsSteadyBuild new
  pub rebuilding : (at : Layout) (g : ℕ) → IsRebuilding at g old → IsRebuilding at g new

-- all is reserved, and the staging can begin
pub record IsMet (r : Rebuild) : Type 0 where
  pub ready : IsReady r
  pub begins : IsAt r.building.lists (First 0)

-- it is, where that was answered
abbrev pub MetBy : Result Bool ScrubFault → Rebuild → Type 0
MetBy (Ok is_met) r = is_met ≡ true → IsMet r
MetBy (Err fault) r = ⊤

-- how far the unit is after a piece of the reserving that was answered so
abbrev pub work_given_up : Rebuild → ScrubFault → Work
work_given_up r (faults.GaveUp reason) = works.Spent r
work_given_up r fault = works.Building r

abbrev pub work_if : Rebuild → Bool → Work
work_if r true = works.Reserved r (First 0)
work_if r false = works.Building r

abbrev pub work_by : Rebuild → Result Bool ScrubFault → Work
work_by r (Ok is_met) = work_if r is_met
work_by r (Err fault) = work_given_up r fault

-- how far it is after a piece of the staging, and what is answered
abbrev pub staged_by : Rebuild → Staging → Result (Option Staged) ScrubFault → Work
staged_by r at (Ok (Some staged)) = works.Staged r staged
staged_by r at (Ok None) = works.Reserved r at
staged_by r at (Err fault) = works.Reserved r at

abbrev pub told_by : Result (Option Staged) ScrubFault → Result Bool ScrubFault
told_by (Ok (Some staged)) = Ok true
told_by (Ok None) = Ok false
told_by (Err fault) = Err fault

-- at most so many entries came, in room that was there
pub record Notes {D : Type 0} (d : Ghosts D) (most : ℕ) (old new : Desk D) : Type 0 where
  pub usable : IsUsable d new
  pub steady : IsSteady d old new
  pub capacity : vec_capacity new.book.journal ≡ vec_capacity old.book.journal
  pub longer : vec_len new.book.journal ≤ vec_len old.book.journal + most
