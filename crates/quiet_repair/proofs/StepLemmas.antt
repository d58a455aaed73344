-- An answer of the core leaves a session on its course, or ends it there.
use Rattle.std.proofs.Common.{◌≡◌, ◌∙◌, ℕ, ◌<◌, refl, sym, ap, subst, inl, inr, append-nil}
use Rattle.std.specs.Global.{Vec}
use Rattle.std.specs.Prelude.{List, [], ◌∷◌, ◌++◌, ◌⊎◌, Bool, true, false, Option, Some, None, if◌then◌else◌, IsTrue, ◌↔◌, ◌==◌}
use Rattle.blk_device.specs.declared.device.Device.{Ghosts}
use Rattle.core_calls.specs.declared.answers.Answer.{Answer}
use Rattle.core_calls.specs.declared.answers.Answer.TheVariants as answers
use Rattle.core_calls.specs.declared.answers.Phase.{Phase}
use Rattle.core_calls.specs.declared.answers.ScrubFault.{ScrubFault}
use Rattle.core_calls.specs.declared.answers.ScrubFault.TheVariants as faults
use Rattle.core_calls.specs.declared.asks.Ask.{Ask}
use Rattle.core_parts.specs.Keeps.{IsSteady}
use Rattle.core_parts.specs.Safe.{IsSafe}
use Rattle.core_parts.specs.declared.desk.Desk.{Desk}
use Rattle.core_parts.specs.declared.groups.GroupKept.{GroupKept}
use Rattle.core_parts.specs.declared.parts.Parts.{Parts}
use Rattle.core_parts.specs.declared.units.UnitState.{UnitState}
use Rattle.fs_model.specs.declared.entry.Entry.{Entry}
use Rattle.fs_model.specs.declared.unit.Unit.{Unit as ScrubUnit}
use Rattle.fs_state.specs.Session.{Place, stands, verdict_places}
use Rattle.fs_state.specs.declared.plan.Plan.{Plan}
use Rattle.fsck_core.specs.Asks.{group_asked, phase_of_group}
use Rattle.fsck_core.specs.Entries.{Says}
use Rattle.geom.specs.declared.geometry.Geometry.{Geometry}
use Rattle.quiet_repair.proofs.ComesLemmas.{Before, comes_at}
use Rattle.quiet_repair.proofs.CourseLemmas.{false_true, is_due, is_over}
use Rattle.quiet_repair.specs.Courses.{Comes, EndsBy, GoesBy, HasOpen, OnCourse, past_in}
use Rattle.scrub_order.specs.Comes.{MayAnswer, Sight, says}
use Rattle.scrub_order.specs.Course.{Course, CourseBegins, CourseEnds, CourseGoesOn, CourseIsFresh, CourseStays, CourseStops, IsAtWork, IsInOrder, SaysAt, WasAtWork, is_open_at}
use Rattle.scrub_order.specs.Laws.{StandsAt, behind}
use Rattle.scrub_order.specs.Orders.{ask_in, begun, took_in}
use Rattle.scrub_order.specs.declared.at.At.{At}
use Rattle.scrub_order.specs.declared.at.At.TheVariants as ats
use Rattle.scrub_order.specs.declared.order.Order.{Order}
use Rattle.unit_trust.proofs.Agreeing.{entries_agree, fresh_agree, opening_agrees}
use Rattle.unit_trust.proofs.Lacking.{lack_alike}
use Rattle.unit_trust.specs.Laws.{AllFresh}
use Rattle.unit_trust.specs.Trusts.{Agrees}

-- ---- the order's positions

due_at : (plan : Plan) (turns n : ℕ) (at : At) (o : Order) (left : List Place) (s : Sight) → is_due at ≡ true → StandsAt plan turns n at o left s → (o.is_judged ≡ false) × (o.stop ≡ None)
due_at plan turns n ats.Start o left s due is = (is.0.judged, is.0.stop)
due_at plan turns n ats.Advance o left s due is = is.0.judged
due_at plan turns n ats.Scan o left s due is = is.0.judged
due_at plan turns n ats.Close o left s due is = is.0.judged
due_at plan turns n ats.Gather o left s due is = is.0.judged
due_at plan turns n ats.Compare o left s due is = is.0.judged
due_at plan turns n ats.Reserve o left s due is = is.0.judged
due_at plan turns n ats.Stage o left s due is = is.0.judged
due_at plan turns n ats.Switch o left s due is = is.0.judged
due_at plan turns n ats.Reap o left s due is = absurd (false_true due)
due_at plan turns n ats.ReapOnce o left s due is = absurd (false_true due)
due_at plan turns n ats.Reopen o left s due is = absurd (false_true due)
due_at plan turns n ats.Over o left s due is = absurd (false_true due)

over_open : (at : At) → is_over at ≡ true → is_open_at at ≡ true → ⊥
over_open ats.Reap over is = false_true is
over_open ats.ReapOnce over is = false_true is
over_open ats.Reopen over is = false_true is
over_open at over is = false_true over

over_start : (at : At) → is_over at ≡ true → at ≡ ats.Start → ⊥
over_start at over is = false_true (subst (λ (x : At). is_over x ≡ true) is over)

over_work : (o : Order) (at : At) (a : Answer) → o.at ≡ at → is_over at ≡ true → WasAtWork o a → ⊥
over_work o at a here over (inl work) = over_open at over (subst (λ (x : At). is_open_at x ≡ true) here work)
over_work o at a here over (inr opened) = over_start at over (sym here ∙ opened.0)

begun_idle : (b : Bool) → is_open_at (if b then ats.Over else ats.Start) ≡ true → ⊥
begun_idle true is = false_true is
begun_idle false is = false_true is

-- ---- the journal, backwards

behind_on : (past xs ys : List Entry) → behind past (xs ++ ys) ≡ behind (behind past xs) ys
behind_on past [] ys = refl
behind_on past (x ∷ xs) ys = behind_on (x ∷ past) xs ys

module _ {D : Type 0} (d : Ghosts D) (course_goes_on : CourseGoesOn) (course_stops : CourseStops) (course_is_fresh : CourseIsFresh) (course_stays : CourseStays) (plan : Plan) (turns : ℕ) where
  over_idle : (o : Order) (at : At) → o.at ≡ at → is_over at ≡ true → (a : Answer) (ph : Phase) → MayAnswer at a ph → IsAtWork (took_in o a ph) → ⊥
  over_idle o at here over a ph may work = over_work o at a here over (course_stays o a ph (subst (λ (x : At). MayAnswer x a ph) (sym here) may) work).0

  before_of : (p q : Parts D) (o : Order) (ask : Ask) → IsSafe d p → o.group < p.desk.store.geo.agcount → ask_in o ≡ Some ask → OnCourse plan turns p o → Before entries_agree plan turns p q o lack_alike opening_agrees
  before_of p q o ask safe inside asked on = record {
    all = safe.groups;
    units_all = safe.units;
    inside = inside;
    planned = on.course.follows.of_plan;
    turned = on.course.follows.of_turns;
    agrees = on.agrees;
    at_work = on.at_work;
    due = λ due. let is : (o.is_judged ≡ false) × (o.stop ≡ None) = due_at plan turns p.desk.store.geo.agcount o.at o on.course.left on.course.sight due on.course.follows.stands in
        (course_is_fresh p.desk.store.geo.agcount plan turns p.desk.book.journal.items o ask on.course asked is.0, is.1);
    idle = over_idle o;
  }

  comes_of : (p q : Parts D) (o : Order) (ask : Ask) (a : Answer) (ph : Phase) → IsSafe d p → o.group < p.desk.store.geo.agcount → ask_in o ≡ Some ask → OnCourse plan turns p o → Says ask p q a → ph ≡ phase_of_group q.units.items (group_asked ask) → Comes plan turns p q o o.at ask a ph
  comes_of p q o ask a ph safe inside asked on says_it phase = comes_at entries_agree plan turns p q o lack_alike opening_agrees o.at ask a ph (before_of p q o ask safe inside asked on) safe.works refl asked says_it phase

  count_on : (p q : Parts D) → IsSteady d p.desk q.desk → p.desk.store.geo.agcount ≡ q.desk.store.geo.agcount
  count_on p q steady = ap (λ (g : Geometry). g.agcount) (sym steady.geometry)

  open_at : (o : Order) (g : ℕ) (u : ScrubUnit) (us : List (Option UnitState)) → g ≡ o.group → u ≡ o.unit → HasOpen o.group o.unit plan turns us → HasOpen g u plan turns us
  open_at o g u us group unit has = subst (λ (h : ℕ). HasOpen h u plan turns us) (sym group) (subst (λ (v : ScrubUnit). HasOpen o.group v plan turns us) (sym unit) has)

  -- the order takes the answer
  taken_on : (p q : Parts D) (o : Order) (ask : Ask) (a : Answer) (ph : Phase) → IsSteady d p.desk q.desk → ask_in o ≡ Some ask → OnCourse plan turns p o → MayAnswer o.at a ph → Comes plan turns p q o o.at ask a ph → OnCourse plan turns q (took_in o a ph)
  taken_on p q o ask a ph steady asked on may came = record {
    course = subst (λ (n : ℕ). Course n plan turns q.desk.book.journal.items (took_in o a ph)) (count_on p q steady)
        (subst (λ (mine : List Entry). Course p.desk.store.geo.agcount plan turns mine (took_in o a ph)) (sym came.more)
        (course_goes_on p.desk.store.geo.agcount plan turns p.desk.book.journal.items came.es o ask a ph on.course asked may (came.said may)));
    at_work = λ work. open_at o (took_in o a ph).group (took_in o a ph).unit q.units.items (course_stays o a ph may work).1.group (course_stays o a ph may work).1.unit (came.opened may work);
    agrees = λ goes. subst (λ (past : List Entry). Agrees past q.groups.items) (sym (ap (behind []) came.more ∙ behind_on [] p.desk.book.journal.items came.es)) (came.agree may goes);
  }

  -- or doesn't know it
  cut_on : (p q : Parts D) (o : Order) (ask : Ask) (a : Answer) (ph : Phase) → IsSteady d p.desk q.desk → OnCourse plan turns p o → (MayAnswer o.at a ph → ⊥) → Comes plan turns p q o o.at ask a ph → (fault : ScrubFault) → IsInOrder q.desk.store.geo.agcount plan turns (Some fault) q.desk.book.journal.items
  cut_on p q o ask a ph steady on out came fault = subst (λ (n : ℕ). IsInOrder n plan turns (Some fault) q.desk.book.journal.items) (count_on p q steady)
      (subst (λ (mine : List Entry). IsInOrder p.desk.store.geo.agcount plan turns (Some fault) mine) (sym came.more)
      (course_stops p.desk.store.geo.agcount plan turns p.desk.book.journal.items came.es o fault on.course (came.mute out)))

  by_taken : (b : Bool) (p q : Parts D) (o r : Order) (ask : Ask) (a : Answer) (ph : Phase) → IsSteady d p.desk q.desk → ask_in o ≡ Some ask → OnCourse plan turns p o → Comes plan turns p q o o.at ask a ph → IsTrue b ↔ MayAnswer o.at a ph → r ≡ (if b then took_in o a ph else o) → GoesBy plan turns b q r
  by_taken true p q o r ask a ph steady asked on came may is = subst (λ (x : Order). OnCourse plan turns q x) (sym is) (taken_on p q o ask a ph steady asked on (may.0 refl) came)
  by_taken false p q o r ask a ph steady asked on came may is = λ fault. cut_on p q o ask a ph steady on (λ m. false_true (may.1 m)) came fault

  pub goes_by : (b : Bool) (p q : Parts D) (o r : Order) (ask : Ask) (a : Answer) (ph : Phase) → IsSafe d p → o.group < p.desk.store.geo.agcount → IsSteady d p.desk q.desk → ask_in o ≡ Some ask → OnCourse plan turns p o → Says ask p q a → ph ≡ phase_of_group q.units.items (group_asked ask)
      → IsTrue b ↔ MayAnswer o.at a ph → r ≡ (if b then took_in o a ph else o) → GoesBy plan turns b q r
  goes_by b p q o r ask a ph safe inside steady asked on says_it phase may is = by_taken b p q o r ask a ph steady asked on (comes_of p q o ask a ph safe inside asked on says_it phase) may is

module _ {D : Type 0} (plan : Plan) (turns : ℕ) where
  -- a session that asks nothing more is over
  pub ends_at : (course_ends : CourseEnds) (p : Parts D) (o : Order) → OnCourse plan turns p o → ask_in o ≡ None → IsInOrder p.desk.store.geo.agcount plan turns o.stop p.desk.book.journal.items
  ends_at course_ends p o on asked = course_ends p.desk.store.geo.agcount plan turns p.desk.book.journal.items o on.course asked

  -- and may be cut short anywhere
  pub cut_at : (course_stops : CourseStops) (p : Parts D) (o : Order) (fault : ScrubFault) → OnCourse plan turns p o → IsInOrder p.desk.store.geo.agcount plan turns (Some fault) p.desk.book.journal.items
  unfolding verdict_places
  cut_at course_stops p o fault on = subst (λ (mine : List Entry). IsInOrder p.desk.store.geo.agcount plan turns (Some fault) mine) (append-nil p.desk.book.journal.items)
      (course_stops p.desk.store.geo.agcount plan turns p.desk.book.journal.items [] o fault on.course refl)

  -- by the order's own plan and turns
  pub own_course : (p : Parts D) (o : Order) → OnCourse plan turns p o → OnCourse o.plan o.turns p o
  own_course p o on = subst (λ (x : Plan). OnCourse x o.turns p o) (sym on.course.follows.of_plan) (subst (λ (t : ℕ). OnCourse plan t p o) (sym on.course.follows.of_turns) on)

  pub given_course : (p : Parts D) (o : Order) (x : Plan) (t : ℕ) → x ≡ plan → t ≡ turns → OnCourse x t p o → OnCourse plan turns p o
  given_course p o x t is turned on = subst (λ (y : Plan). OnCourse y turns p o) is (subst (λ (s : ℕ). OnCourse x s p o) turned on)

  -- ---- from its first event on

  pub begins_on : (course_begins : CourseBegins) (p : Parts D) → AllFresh p.groups.items → p.desk.book.journal.items ≡ [] → OnCourse plan turns p (begun p.desk.store.geo.agcount plan turns)
  begins_on course_begins p fresh empty = record {
    course = subst (λ (mine : List Entry). Course p.desk.store.geo.agcount plan turns mine (begun p.desk.store.geo.agcount plan turns)) (sym empty) (course_begins p.desk.store.geo.agcount plan turns);
    at_work = λ work. absurd (begun_idle (p.desk.store.geo.agcount == 0) work);
    agrees = λ none. subst (λ (mine : List Entry). Agrees (behind [] mine) p.groups.items) (sym empty) (fresh_agree p.groups.items fresh);
  }
