-- What a quiet session has come to, by the core's parts and its order ("Metadata Scrubbing").
use Rattle.std.specs.Prelude.{◌≡◌, ℕ, Bool, true, false, List, [], Option, Some, None}
use Rattle.std.specs.List.{slice_get}
use Rattle.core_calls.specs.declared.answers.Answer.{Answer}
use Rattle.core_calls.specs.declared.answers.Phase.{Phase}
use Rattle.core_calls.specs.declared.answers.ScrubFault.{ScrubFault}
use Rattle.core_calls.specs.declared.asks.Ask.{Ask}
use Rattle.core_parts.specs.declared.parts.Parts.{Parts}
use Rattle.core_parts.specs.declared.units.UnitState.{UnitState}
use Rattle.core_parts.specs.Common.Entries.{HasMore}
use Rattle.fs_model.specs.declared.entry.Entry.{Entry}
use Rattle.fs_model.specs.declared.unit.Unit.{Unit as ScrubUnit}
use Rattle.fs_state.specs.Session.{verdict_places}
use Rattle.fs_state.specs.declared.plan.Plan.{Plan}
use Rattle.quiet_repair.specs.declared.sessions.End.{End}
use Rattle.scrub_order.specs.Comes.{MayAnswer, says}
use Rattle.scrub_order.specs.Course.{Course, IsAtWork, IsInOrder, SaysAt}
use Rattle.scrub_order.specs.Laws.{behind}
use Rattle.scrub_order.specs.Orders.{took_in}
use Rattle.scrub_order.specs.declared.at.At.{At}
use Rattle.scrub_order.specs.declared.order.Order.{Order}
use Rattle.unit_trust.specs.Trusts.{Agrees}

-- the journal, its last entry first
abbrev pub past_in : {D : Type 0} → Parts D → List Entry
past_in p = behind [] p.desk.book.journal.items

-- this unit is open in its group, as it was asked for
pub record HasOpen (g : ℕ) (unit : ScrubUnit) (plan : Plan) (turns : ℕ) (us : List (Option UnitState)) : Type 0 where
  pub state : UnitState
  pub place : slice_get us g ≡ Some (Some state)
  pub of : state.unit ≡ unit
  pub as_planned : state.plan ≡ plan
  pub as_turns : state.turns ≡ turns

-- The journal is one of the order's course; the unit that it works on is open; and unless the session stops, what is known
-- of units is what the journal says.
pub record OnCourse {D : Type 0} (plan : Plan) (turns : ℕ) (p : Parts D) (o : Order) : Type 0 where
  pub course : Course p.desk.store.geo.agcount plan turns p.desk.book.journal.items o
  pub at_work : IsAtWork o → HasOpen o.group o.unit plan turns p.units.items
  pub agrees : o.stop ≡ None → Agrees (past_in p) p.groups.items

-- the verdicts stand in order, as of a session that stops here
abbrev pub IsCutShort : {D : Type 0} → Plan → (turns : ℕ) → Parts D → Type 0
IsCutShort plan turns p = (fault : ScrubFault) → IsInOrder p.desk.store.geo.agcount plan turns (Some fault) p.desk.book.journal.items

-- whether the order took the answer
abbrev pub GoesBy : {D : Type 0} → Plan → (turns : ℕ) → Bool → Parts D → Order → Type 0
GoesBy plan turns true p o = OnCourse plan turns p o
GoesBy plan turns false p o = IsCutShort plan turns p

-- a session that goes on, or ended so
abbrev pub EndsBy : {D : Type 0} → Plan → (turns : ℕ) → Option End → Parts D → Order → Type 0
EndsBy plan turns None p o = OnCourse plan turns p o
EndsBy plan turns (Some end) p o = IsInOrder p.desk.store.geo.agcount plan turns end.stop p.desk.book.journal.items

-- ---- one answer

-- What came of an event, behind these entries: one answer of the table says the order's verdict, or none; another says none.
-- The unit that is worked on then is open, and unless the session stops what is known is what the journal says.
pub record Comes {D : Type 0} (plan : Plan) (turns : ℕ) (p q : Parts D) (o : Order) (at : At) (ask : Ask) (answer : Answer) (phase : Phase) : Type 0 where
  pub es : List Entry
  pub more : HasMore p.desk q.desk es
  pub mute : (MayAnswer at answer phase → ⊥) → verdict_places es ≡ []
  pub said : MayAnswer at answer phase → SaysAt p.desk.store.geo.agcount plan turns (past_in p) o (says ask answer phase) es
  pub opened : MayAnswer at answer phase → IsAtWork (took_in o answer phase) → HasOpen o.group o.unit plan turns q.units.items
  pub agree : MayAnswer at answer phase → (took_in o answer phase).stop ≡ None → Agrees (behind (past_in p) es) q.groups.items
