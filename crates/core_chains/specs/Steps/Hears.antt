-- What the open unit of reverse mappings needs, to hear of a finished step without taking memory ("Live Updates").
use Rattle.std.specs.Prelude.{◌≡◌, ◌≤◌, ◌+◌, ℕ, Bool, true, not, All, List, [], ◌∷◌, Option, Some, None, Vec, vec_capacity, vec_len}
use Rattle.core_parts.specs.Safe.{IsUnit, IsWork}
use Rattle.core_parts.specs.declared.units.UnitState.{UnitState}
use Rattle.core_parts.specs.declared.units.Work.{Work}
use Rattle.core_parts.specs.declared.units.Work.TheVariants as works
use Rattle.geom.specs.Layout.{Layout}
use Rattle.rmap_recs.specs.declared.records.RmapRec.{RmapRec}
use Rattle.run_edits.specs.Edits.{AreSorted, HasRoom, is_before}
use Rattle.std.specs.declared.alloc.Global.{Global}

-- the first of the others doesn't come before the record
abbrev pub is_up : RmapRec → List RmapRec → Bool
is_up r [] = true
is_up r (s ∷ ss) = not (is_before s r)

-- runs can be given to the list and taken from it
pub record CanEdit (recs : List RmapRec) : Type 0 where
  pub sorted : AreSorted recs
  pub rooms : All HasRoom recs

-- and one taken and then one given without memory
pub record CanTurn (list : Vec RmapRec Global) : Type 0 where
  pub edits : CanEdit list.items
  pub room : vec_len list + 2 ≤ vec_capacity list

abbrev pub CanHear : Work → Type 0
CanHear (works.Scanning s) = 2 ≤ s.shadow.room
CanHear (works.Open list) = CanTurn list
CanHear (works.Closed list) = Unit {0}
CanHear (works.Gathering g) = Unit {0}
CanHear (works.Gathered j) = Unit {0}
CanHear (works.Chosen j) = Unit {0}
CanHear (works.Building r) = Unit {0}
CanHear (works.Reserved r s) = Unit {0}
CanHear (works.Staged r s) = Unit {0}
CanHear (works.Spent r) = Unit {0}
CanHear works.Judged = Unit {0}

-- where a unit is open
abbrev pub CanHearIn : Option UnitState → Type 0
CanHearIn None = Unit {0}
CanHearIn (Some u) = CanHear u.work

-- the work is fit for what comes next, if it was
pub record StaysUnit (old new : UnitState) : Type 0 where
  pub group : new.group ≡ old.group
  pub work : (at : Layout) → IsWork at old.group old.work → IsWork at old.group new.work

-- a place of the list of open units: no unit is open, or one of that group
abbrev pub IsPlace : Layout → ℕ → Option UnitState → Type 0
IsPlace at g place = (u : UnitState) → place ≡ Some u → (u.group ≡ g) × IsUnit at u

abbrev pub StaysPlace : Option UnitState → Option UnitState → Type 0
StaysPlace old new = (at : Layout) (g : ℕ) → IsPlace at g old → IsPlace at g new
