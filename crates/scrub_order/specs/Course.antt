-- The course of a session by its answers and its journal alone, whatever a core keeps of its open units.
use Rattle.std.specs.Prelude.{ℕ, ◌≡◌, ◌⊎◌, Bool, true, false, List, [], ◌∷◌, ◌++◌, Option, Some, None}
use Rattle.core_calls.specs.declared.answers.Answer.{Answer}
use Rattle.core_calls.specs.declared.answers.Answer.TheVariants as answers
use Rattle.core_calls.specs.declared.answers.Phase.{Phase}
use Rattle.core_calls.specs.declared.answers.ScrubFault.{ScrubFault}
use Rattle.core_calls.specs.declared.asks.Ask.{Ask}
use Rattle.fs_state.specs.Session.{Place, Session, VerdictsFit, is_cut, is_refused, stands, unit_order, verdict_places}
use Rattle.fs_state.specs.declared.plan.Plan.{Plan}
use Rattle.fs_model.specs.declared.entry.Entry.{Entry}
use Rattle.scrub_order.specs.Comes.{MayAnswer, Sight, says}
use Rattle.scrub_order.specs.Laws.{Follows, behind}
use Rattle.scrub_order.specs.Orders.{ask_in, begun, took_in}
use Rattle.scrub_order.specs.declared.at.At.{At}
use Rattle.scrub_order.specs.declared.at.At.TheVariants as ats
use Rattle.scrub_order.specs.declared.order.Order.{Order}

-- the entries since the last answer: the verdict of the order's unit where the answer says one, as it may be; else none
abbrev pub SaysAt : (n : ℕ) → Plan → (turns : ℕ) → List Entry → Order → Bool → List Entry → Type 0
SaysAt n plan turns past o false es = verdict_places es ≡ []
SaysAt n plan turns past o true es = (verdict_places es ≡ (o.group, o.unit) ∷ []) × VerdictsFit plan turns n past es

-- a session over n groups whose journal was empty has come to these entries, and to this order
pub record Course (n : ℕ) (plan : Plan) (turns : ℕ) (mine : List Entry) (o : Order) : Type 0 where
  pub left : List Place
  pub sight : Sight
  pub follows : Follows n plan turns [] mine left o sight

-- the verdicts stand in the order of all units, each as it may be: all of them, or, at a stop, the first of them
pub record IsInOrder (n : ℕ) (plan : Plan) (turns : ℕ) (stop : Option ScrubFault) (mine : List Entry) : Type 0 where
  pub front : (rest : List Place) × (unit_order n ≡ verdict_places mine ++ rest)
  pub whole : stop ≡ None → verdict_places mine ≡ unit_order n
  pub verdicts : VerdictsFit plan turns n [] mine

-- an event works on the order's unit, which is open and has no verdict yet
abbrev pub is_open_at : At → Bool
is_open_at ats.Start = false
is_open_at ats.Reap = false
is_open_at ats.ReapOnce = false
is_open_at ats.Reopen = false
is_open_at ats.Over = false
is_open_at at = true

abbrev pub IsAtWork : Order → Type 0
IsAtWork o = is_open_at o.at ≡ true

-- it worked on it before the answer too, or has just opened it
abbrev pub WasAtWork : Order → Answer → Type 0
WasAtWork o answer = IsAtWork o ⊎ ((o.at ≡ ats.Start) × (answer ≡ answers.Done))

pub record StaysAt (old new : Order) : Type 0 where
  pub group : new.group ≡ old.group
  pub unit : new.unit ≡ old.unit

-- ---- laws

abbrev pub CourseBegins : Type 0
CourseBegins = (n : ℕ) (plan : Plan) (turns : ℕ) → Course n plan turns [] (begun n plan turns)

abbrev pub CourseGoesOn : Type 0
CourseGoesOn = (n : ℕ) (plan : Plan) (turns : ℕ) (mine es : List Entry) (o : Order) (ask : Ask) (answer : Answer) (phase : Phase) → Course n plan turns mine o
    → ask_in o ≡ Some ask → MayAnswer o.at answer phase → SaysAt n plan turns (behind [] mine) o (says ask answer phase) es → Course n plan turns (mine ++ es) (took_in o answer phase)

abbrev pub CourseEnds : Type 0
CourseEnds = (n : ℕ) (plan : Plan) (turns : ℕ) (mine : List Entry) (o : Order) → Course n plan turns mine o → ask_in o ≡ None → IsInOrder n plan turns o.stop mine

-- at a stop that the order doesn't know, behind entries without a verdict
abbrev pub CourseStops : Type 0
CourseStops = (n : ℕ) (plan : Plan) (turns : ℕ) (mine es : List Entry) (o : Order) (fault : ScrubFault) → Course n plan turns mine o → verdict_places es ≡ [] → IsInOrder n plan turns (Some fault) (mine ++ es)

-- a unit that is due, or at work, has no verdict yet
abbrev pub CourseIsFresh : Type 0
CourseIsFresh = (n : ℕ) (plan : Plan) (turns : ℕ) (mine : List Entry) (o : Order) (ask : Ask) → Course n plan turns mine o → ask_in o ≡ Some ask → o.is_judged ≡ false → stands o.group o.unit (behind [] mine) ≡ false

-- while it works on a unit it stays with it
abbrev pub CourseStays : Type 0
CourseStays = (o : Order) (answer : Answer) (phase : Phase) → MayAnswer o.at answer phase → IsAtWork (took_in o answer phase) → WasAtWork o answer × StaysAt o (took_in o answer phase)

-- the journal of such a session is one over all units, at each status that is a session's own
abbrev pub CourseIsSession : Type 0
CourseIsSession = (n : ℕ) (plan : Plan) (turns status : ℕ) (stop : Option ScrubFault) (mine : List Entry) → IsInOrder n plan turns stop mine
    → is_refused status ≡ false → (is_cut status ≡ false → stop ≡ None) → Session (unit_order n) plan turns n status mine
