-- What an event keeps of the parts, and what its steps do.
use Rattle.std.specs.Prelude.{◌≡◌, ⊤, ℕ, List, Some, None, length}
use Rattle.blk_device.specs.declared.device.Device.{Ghosts}
use Rattle.core_calls.specs.declared.answers.Answer.{Answer}
use Rattle.core_calls.specs.declared.answers.Answer.TheVariants.{Scrub, Write}
use Rattle.core_parts.specs.Keeps.{IsSteady}
use Rattle.core_parts.specs.Reasons.{HasReason}
use Rattle.core_parts.specs.Safe.{AreKept, IsDesk, IsSafe, IsUnit}
use Rattle.core_parts.specs.declared.desk.Desk.{Desk}
use Rattle.core_parts.specs.declared.groups.GroupKept.{GroupKept}
use Rattle.core_parts.specs.declared.parts.Parts.{Parts}
use Rattle.core_parts.specs.declared.units.UnitState.{UnitState}
use Rattle.core_chains.specs.Write.Writes.{HasWriteReason}
use Rattle.geom.specs.Places.{layout}

-- a fault that was noted stays so
abbrev pub StaysShut : {D : Type 0} → Desk D → Desk D → Type 0
StaysShut old new = (n : ℕ) → old.book.shut ≡ Some n → new.book.shut ≡ Some n

-- a refusal has its reason, as a writer or the scrubber is told
abbrev pub TellsAll : {D : Type 0} → Desk D → Answer → Type 0
TellsAll desk (Scrub fault) = HasReason desk fault
TellsAll desk (Write fault) = HasWriteReason desk fault
TellsAll desk answer = ⊤

-- what every event keeps, whatever it answers
pub record Acts {D : Type 0} (d : Ghosts D) (old new : Parts D) (answer : Answer) : Type 0 where
  pub safe : IsSafe d new
  pub steady : IsSteady d old.desk new.desk
  pub told : TellsAll new.desk answer
  pub shut : StaysShut old.desk new.desk

-- the open unit of a group was taken out of its place, and an event may work on it
pub record IsTaken {D : Type 0} (d : Ghosts D) (old new : Parts D) (u : UnitState) : Type 0 where
  pub desk : new.desk ≡ old.desk
  pub safe : IsSafe d new
  pub unshut : new.desk.book.shut ≡ None
  pub unit : IsUnit (layout new.desk.store.geo) u

-- what an event of a unit is given, with what is kept of all groups
pub record IsGivenAll {D : Type 0} (d : Ghosts D) (k : Desk D) (ks : List GroupKept) (u : UnitState) : Type 0 where
  pub desk : IsDesk d k
  pub unshut : k.book.shut ≡ None
  pub groups : length ks ≡ k.store.geo.agcount
  pub kept : AreKept ks
  pub unit : IsUnit (layout k.store.geo) u

-- and what it leaves
pub record IsLeftAll {D : Type 0} (d : Ghosts D) (old new : Desk D) (was ks : List GroupKept) : Type 0 where
  pub desk : IsDesk d new
  pub steady : IsSteady d old new
  pub groups : length ks ≡ length was
  pub kept : AreKept ks

-- with the unit
pub record IsWorked {D : Type 0} (d : Ghosts D) (old new : Desk D) (was ks : List GroupKept) (u v : UnitState) : Type 0 where
  pub all : IsLeftAll d old new was ks
  pub unit : IsUnit (layout new.store.geo) v
  pub group : v.group ≡ u.group
