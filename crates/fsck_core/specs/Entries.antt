-- Which entries an event adds to the journal, by what was asked and answered ("Metadata Scrubbing").
use Rattle.std.specs.Prelude.{◌≡◌, ◌⊎◌, ⊤, ℕ, [], Bool, List, Some, None, Result, OnErr, OnOk, slice_set}
use Rattle.std.specs.List.{slice_get}
use Rattle.core_build.specs.Says.{SaysReserving}
use Rattle.core_calls.specs.declared.answers.Answer.{Answer}
use Rattle.core_begin.specs.After.{IsSetAside}
use Rattle.core_begin.specs.Starts.{Clears, IsOpened, MayBar}
use Rattle.core_calls.specs.declared.answers.Answer.TheVariants.{Done, Scrub}
use Rattle.core_calls.specs.declared.answers.Phase.TheVariants.{Idle}
use Rattle.core_calls.specs.declared.answers.ScrubFault.{ScrubFault}
use Rattle.core_calls.specs.declared.answers.ScrubFault.TheVariants as faults
use Rattle.core_calls.specs.declared.asks.Ask.{Ask}
use Rattle.core_calls.specs.declared.asks.Ask.TheVariants as asks
use Rattle.core_check.specs.Entries.{TellsPiece, which_of}
use Rattle.core_parts.specs.Common.Entries.{HasMore, IsShutBy, entries_on}
use Rattle.core_parts.specs.declared.desk.Desk.{Desk}
use Rattle.core_parts.specs.declared.groups.GroupKept.{GroupKept}
use Rattle.core_parts.specs.declared.parts.Parts.{Parts}
use Rattle.core_parts.specs.declared.units.UnitState.{UnitState}
use Rattle.core_switch.specs.Says.{SaysBy, SaysReaping, released_by}
use Rattle.core_switch.specs.Switched.{HasSwitched}
use Rattle.fs_model.specs.declared.entry.Entry.{Entry}
use Rattle.fs_model.specs.declared.unit.Unit.{Unit as ScrubUnit}
use Rattle.fs_state.specs.declared.plan.Plan.{Plan}
use Rattle.fsck_core.specs.Moves.{MovesIn, StaysKnown}
use Rattle.fsck_core.specs.Told.{told_done, told_piece}
use Rattle.fsck_core.specs.declared.events.Event.{Event}
use Rattle.fsck_core.specs.declared.events.Event.TheVariants as events
use Rattle.unit_trust.specs.Trusts.{lacks}

-- The verdict of a unit that is skipped or given up; any other answer tells of no entry.
abbrev pub entries_told : ℕ → ScrubUnit → Answer → List Entry
entries_told g unit (Scrub fault) = entries_on g unit fault
entries_told g unit answer = []

-- the same entries
abbrev pub NoneSaid : {D : Type 0} → (old new : Desk D) → Type 0
NoneSaid old new = new.book.journal.items ≡ old.book.journal.items

-- ---- an event of an open unit

-- one for each of the next faults, and the verdict that follows; a refusal adds none
pub record SaysComparing {D : Type 0} (u v : UnitState) (p : GroupKept) (old new : Desk D) (r : Result Bool ScrubFault) : Type 0 where
  pub tells : OnOk r (TellsPiece (which_of u) p.heads u.work old new (record { work = v.work; answer = r }))
  pub unsaid : OnErr r (NoneSaid old new)

-- that of the switch and the verdict; a refusal adds none
pub record SaysSwitching {D : Type 0} (u : UnitState) (p q : GroupKept) (old new : Desk D) (r : Result (Unit {0}) ScrubFault) : Type 0 where
  pub switched : OnOk r (HasSwitched u old.book new.book p q)
  pub unsaid : OnErr r (NoneSaid old new)

-- by the unit and what is kept of its group, before and after
abbrev pub SaysIn : {D : Type 0} → Event → (u v : UnitState) → (p q : GroupKept) → (old new : Desk D) → Answer → Type 0
SaysIn events.Advance u v p q old new a = HasMore old new (entries_told u.group u.unit a)
SaysIn events.Scan u v p q old new a = HasMore old new (entries_told u.group u.unit a)
SaysIn events.Close u v p q old new a = HasMore old new (entries_told u.group u.unit a)
SaysIn events.Gather u v p q old new a = HasMore old new (entries_told u.group u.unit a)
SaysIn events.Compare u v p q old new a = (r : Result Bool ScrubFault) × (a ≡ told_piece r) × SaysComparing u v p old new r
SaysIn events.Reserve u v p q old new a = (r : Result Bool ScrubFault) × (a ≡ told_piece r) × SaysReserving u.group u.unit u.work v.work p q old new r
SaysIn events.Stage u v p q old new a = NoneSaid old new
SaysIn events.Switch u v p q old new a = (r : Result (Unit {0}) ScrubFault) × (a ≡ told_done r) × SaysSwitching u p q old new r
SaysIn events.Reap u v p q old new a = (r : Result Bool ScrubFault) × (a ≡ told_piece r) × SaysReaping u.group p q old new r

-- what it makes of the groups, of which one is the unit's
pub record SaysAmong {D : Type 0} (event : Event) (u v : UnitState) (was ks : List GroupKept) (old new : Desk D) (a : Answer) : Type 0 where
  pub before : GroupKept
  pub after : GroupKept
  pub kept : slice_get was u.group ≡ Some before
  pub left : ks ≡ slice_set was u.group after
  pub says : SaysIn event u v before after old new a
  pub moves : MovesIn event u v before after old new a

-- ---- among all parts

-- the open unit of a group was taken out of its place
pub record IsOut {D : Type 0} (g : ℕ) (old new : Parts D) (u : UnitState) : Type 0 where
  pub unit : slice_get old.units.items g ≡ Some (Some u)
  pub group : u.group ≡ g
  pub units : new.units.items ≡ slice_set old.units.items g None
  pub groups : new.groups ≡ old.groups
  pub desk : new.desk ≡ old.desk

-- an event of a unit that was taken out is done, and the unit is in its place
pub record IsDoneBy {D : Type 0} (event : Event) (u : UnitState) (old new : Parts D) (a : Answer) : Type 0 where
  pub later : UnitState
  pub units : new.units.items ≡ slice_set old.units.items u.group (Some later)
  pub says : SaysAmong event u later old.groups.items new.groups.items old.desk new.desk a

-- an event of the unit that is open in this group
pub record IsDone {D : Type 0} (g : ℕ) (event : Event) (old new : Parts D) (a : Answer) : Type 0 where
  pub unit : UnitState
  pub later : UnitState
  pub place : slice_get old.units.items g ≡ Some (Some unit)
  pub group : unit.group ≡ g
  pub units : new.units.items ≡ slice_set old.units.items g (Some later)
  pub says : SaysAmong event unit later old.groups.items new.groups.items old.desk new.desk a

-- an event that opens the unit's group again: a reserve that it had is released
abbrev pub SaysReleased : {D : Type 0} → UnitState → (old new : Desk D) → Answer → Type 0
SaysReleased u old new a = (r : Result (Unit {0}) ScrubFault) × (a ≡ told_done r) × SaysBy (released_by u) old new r

pub record IsReleased {D : Type 0} (g : ℕ) (old new : Parts D) (a : Answer) : Type 0 where
  pub unit : UnitState
  pub place : slice_get old.units.items g ≡ Some (Some unit)
  pub units : new.units.items ≡ slice_set old.units.items g None
  pub says : SaysReleased unit old.desk new.desk a
  pub known : StaysKnown g old.groups.items new.groups.items

-- no unit is open there, as is answered
pub record IsIdleIn {D : Type 0} (g : ℕ) (old : Parts D) (fault : ScrubFault) : Type 0 where
  pub place : slice_get old.units.items g ≡ Some None
  pub told : fault ≡ faults.OtherPhase Idle

-- the core is shut, or no unit is open in the group, and nothing is done
pub record IsSetBack {D : Type 0} (g : ℕ) (old new : Parts D) (fault : ScrubFault) : Type 0 where
  pub why : IsShutBy old.desk fault ⊎ IsIdleIn g old fault
  pub desk : new.desk ≡ old.desk

abbrev pub IsRefused : {D : Type 0} → ℕ → (old new : Parts D) → Answer → Type 0
IsRefused g old new a = (fault : ScrubFault) × (a ≡ Scrub fault) × IsSetBack g old new fault

abbrev pub SaysReopened : {D : Type 0} → ℕ → (old new : Parts D) → Answer → Type 0
SaysReopened g old new a = IsRefused g old new a ⊎ IsReleased g old new a

abbrev pub SaysOpen : {D : Type 0} → ℕ → Event → (old new : Parts D) → Answer → Type 0
SaysOpen g event old new a = IsRefused g old new a ⊎ IsDone g event old new a

-- ---- a unit that is opened

-- none was, since the core is shut, or by what bars it
pub record IsUnopened {D : Type 0} (g : ℕ) (unit : ScrubUnit) (old new : Parts D) (a : Answer) : Type 0 where
  pub fault : ScrubFault
  pub told : a ≡ Scrub fault
  pub why : IsShutBy old.desk fault ⊎ MayBar (lacks old.groups.items old.desk.store.geo.agcount g unit) fault
  pub aside : IsSetAside old new

-- it is open, with the plan and the turns that were asked for; none of the units that it needs was lacking
pub record IsStarted {D : Type 0} (g : ℕ) (unit : ScrubUnit) (plan : Plan) (turns : ℕ) (old new : Parts D) (a : Answer) : Type 0 where
  pub told : a ≡ Done
  pub ready : lacks old.groups.items old.desk.store.geo.agcount g unit ≡ None
  pub opened : IsOpened g unit plan turns old.units.items new.units.items
  pub cleared : Clears g unit old.groups.items new.groups.items

pub record SaysStarting {D : Type 0} (g : ℕ) (unit : ScrubUnit) (plan : Plan) (turns : ℕ) (old new : Parts D) (a : Answer) : Type 0 where
  pub entries : HasMore old.desk new.desk (entries_told g unit a)
  pub comes : IsUnopened g unit old new a ⊎ IsStarted g unit plan turns old new a

-- ---- what is asked

-- Of a scrubber's event; what writers ask for isn't of a repair, and nothing is said of it.
unfoldable pub Says : {D : Type 0} → Ask → (old new : Parts D) → Answer → Type 0
Says (asks.Start g unit plan turns) old new a = SaysStarting g unit plan turns old new a
Says (asks.Advance g) old new a = SaysOpen g events.Advance old new a
Says (asks.ScanPiece g) old new a = SaysOpen g events.Scan old new a
Says (asks.Close g) old new a = SaysOpen g events.Close old new a
Says (asks.GatherPiece g) old new a = SaysOpen g events.Gather old new a
Says (asks.ComparePiece g) old new a = SaysOpen g events.Compare old new a
Says (asks.ReservePiece g) old new a = SaysOpen g events.Reserve old new a
Says (asks.StagePiece g) old new a = SaysOpen g events.Stage old new a
Says (asks.Switch g) old new a = SaysOpen g events.Switch old new a
Says (asks.ReapPiece g) old new a = SaysOpen g events.Reap old new a
Says (asks.Reopen g) old new a = SaysReopened g old new a
Says ask old new a = ⊤
