-- What an event of the scrubber leaves of the open unit and of what is known of its group, and which refusals come
-- ("Metadata Scrubbing", "Metadata Repair").
use Rattle.std.specs.Prelude.{◌≡◌, ⊤, ℕ, List, Some, slice_set}
use Rattle.std.specs.List.{slice_get}
use Rattle.core_begin.specs.After.{MayClose, MayMove, MayRead}
use Rattle.core_build.specs.Says.{GivesSpace}
use Rattle.core_calls.specs.declared.answers.Answer.{Answer}
use Rattle.core_calls.specs.declared.answers.Answer.TheVariants.{Scrub}
use Rattle.core_calls.specs.declared.answers.ScrubFault.{ScrubFault}
use Rattle.core_calls.specs.declared.answers.ScrubFault.TheVariants as faults
use Rattle.core_check.specs.Entries.{GivesEvidence}
use Rattle.core_parts.specs.Common.Entries.{HasMore}
use Rattle.core_parts.specs.declared.desk.Desk.{Desk}
use Rattle.core_parts.specs.declared.groups.GroupKept.{GroupKept}
use Rattle.core_parts.specs.declared.units.UnitState.{UnitState}
use Rattle.fs_model.specs.declared.entry.Entry.{Entry}
use Rattle.fsck_core.specs.declared.events.Event.{Event}
use Rattle.fsck_core.specs.declared.events.Event.TheVariants as events
use Rattle.unit_trust.specs.Trusts.{KnownBy}

-- ---- the unit

-- it is the unit that was opened, by the same plan, and may lose as many turns
pub record IsNamed (u v : UnitState) : Type 0 where
  pub unit : v.unit ≡ u.unit
  pub plan : v.plan ≡ u.plan
  pub turns : v.turns ≡ u.turns

-- nothing is said of one that was to be switched: it has its verdict then
abbrev pub StaysNamed : Event → (u v : UnitState) → Type 0
StaysNamed events.Advance u v = IsNamed u v
StaysNamed events.Scan u v = IsNamed u v
StaysNamed events.Close u v = IsNamed u v
StaysNamed events.Gather u v = IsNamed u v
StaysNamed events.Compare u v = IsNamed u v
StaysNamed events.Reserve u v = IsNamed u v
StaysNamed events.Stage u v = IsNamed u v
StaysNamed events.Switch u v = ⊤
StaysNamed events.Reap u v = IsNamed u v

-- ---- what is known of its group

-- it is what the entries that came make of it
abbrev pub Knows : {D : Type 0} → (old new : Desk D) → (p q : GroupKept) → Type 0
Knows old new p q = (es : List Entry) → HasMore old new es → KnownBy es p q

-- unless it was refused
abbrev pub KnowsDone : {D : Type 0} → (old new : Desk D) → (p q : GroupKept) → Answer → Type 0
KnowsDone old new p q (Scrub fault) = ⊤
KnowsDone old new p q a = Knows old new p q

abbrev pub KnowsBy : {D : Type 0} → Event → (old new : Desk D) → (p q : GroupKept) → Answer → Type 0
KnowsBy events.Advance old new p q a = Knows old new p q
KnowsBy events.Scan old new p q a = Knows old new p q
KnowsBy events.Close old new p q a = Knows old new p q
KnowsBy events.Gather old new p q a = Knows old new p q
KnowsBy events.Compare old new p q a = Knows old new p q
KnowsBy events.Reserve old new p q a = Knows old new p q
KnowsBy events.Stage old new p q a = Knows old new p q
KnowsBy events.Switch old new p q a = Knows old new p q
KnowsBy events.Reap old new p q a = KnowsDone old new p q a

-- ---- which refusals come

-- of the gathering no unit is skipped
abbrev pub MayGather : ScrubFault → Type 0
MayGather (faults.Skipped g unit) = ⊥
MayGather fault = GivesEvidence fault

abbrev pub MayRefuse : Event → (turns : ℕ) → ScrubFault → Type 0
MayRefuse events.Advance turns fault = MayMove turns fault
MayRefuse events.Scan turns fault = MayRead turns fault
MayRefuse events.Close turns fault = MayClose turns fault
MayRefuse events.Gather turns fault = MayGather fault
MayRefuse events.Compare turns fault = ⊤
MayRefuse events.Reserve turns fault = GivesSpace fault
MayRefuse events.Stage turns fault = ⊤
MayRefuse events.Switch turns fault = ⊤
MayRefuse events.Reap turns fault = ⊤

abbrev pub MayTell : Event → (turns : ℕ) → Answer → Type 0
MayTell event turns (Scrub fault) = MayRefuse event turns fault
MayTell event turns a = ⊤

-- of an event of an open unit, with what is kept of its group before and after
pub record MovesIn {D : Type 0} (event : Event) (u v : UnitState) (p q : GroupKept) (old new : Desk D) (a : Answer) : Type 0 where
  pub named : StaysNamed event u v
  pub known : KnowsBy event old new p q a
  pub may : MayTell event u.turns a

-- ---- a group that is opened again

-- what is known of it stays, and so does all that is kept of others
pub record StaysKnown (g : ℕ) (was ks : List GroupKept) : Type 0 where
  pub before : GroupKept
  pub after : GroupKept
  pub kept : slice_get was g ≡ Some before
  pub left : ks ≡ slice_set was g after
  pub trust : after.trust ≡ before.trust
  pub passed : after.passed ≡ before.passed
