-- What comes of each event that an order asks.
use Rattle.std.proofs.Common.{◌≡◌, ◌∙◌, ℕ, zero, suc, ◌<◌, Bool, true, false, refl, sym, ap, subst, inl, inr, append-nil}
use Rattle.std.specs.Global.{Vec}
use Rattle.std.specs.Prelude.{List, [], ◌∷◌, ◌++◌, ◌⊎◌, ◌≤◌, ⊤, Option, Some, None, Result, Ok, Err, IfErr, OnErr, OnOk, length, map, slice_set, ◌==◌, if◌then◌else◌}
use Rattle.std.specs.List.{slice_get}
use Rattle.block_reap.specs.declared.runs.LimboRun.{LimboRun}
use Rattle.core_begin.specs.Starts.{Clears, IsOpened, MayBar}
use Rattle.core_build.specs.Says.{Does, Takes, reserved_of}
use Rattle.core_calls.specs.declared.answers.Answer.{Answer}
use Rattle.core_calls.specs.declared.answers.Answer.TheVariants as answers
use Rattle.core_calls.specs.declared.answers.Phase.{Phase}
use Rattle.core_calls.specs.declared.answers.Phase.TheVariants as phases
use Rattle.core_calls.specs.declared.answers.ScrubFault.{ScrubFault}
use Rattle.core_calls.specs.declared.answers.ScrubFault.TheVariants as faults
use Rattle.core_calls.specs.declared.asks.Ask.{Ask}
use Rattle.core_calls.specs.declared.asks.Ask.TheVariants as asks
use Rattle.core_check.proofs.EndedLemmas.{ends_as}
use Rattle.core_check.specs.Ended.{EndsAs, EndsJudged, EndsOpen, MayEnd}
use Rattle.core_check.specs.Told.{entry_of}
use Rattle.core_parts.specs.Common.Entries.{HasMore, entries_on}
use Rattle.core_parts.specs.Common.Marks.{mark_of, marks_of}
use Rattle.core_parts.specs.Phases.{phase_at, phase_in}
use Rattle.core_parts.specs.declared.desk.Desk.{Desk}
use Rattle.core_parts.specs.declared.groups.GroupKept.{GroupKept}
use Rattle.core_parts.specs.declared.parts.Parts.{Parts}
use Rattle.core_parts.specs.declared.units.UnitState.{UnitState}
use Rattle.core_parts.specs.declared.units.Work.{Work}
use Rattle.core_parts.specs.declared.units.Work.TheVariants as works
use Rattle.core_edit.specs.declared.place.IndexesLeft.{IndexesLeft}
use Rattle.core_units.specs.declared.rebuild.Next.{Next}
use Rattle.core_units.specs.declared.rebuild.Next.TheVariants as nexts
use Rattle.fs_model.specs.declared.entry.Entry.{Entry}
use Rattle.fs_model.specs.declared.entry.Entry.TheVariants as entries
use Rattle.fs_model.specs.declared.fault.Cause.{Cause}
use Rattle.fs_model.specs.declared.fault.Fault.{Fault}
use Rattle.fs_model.specs.declared.unit.Unit.{Unit as ScrubUnit}
use Rattle.fs_model.specs.declared.verdict.Reason.{Reason}
use Rattle.fs_model.specs.declared.verdict.Reason.TheVariants as reasons
use Rattle.fs_model.specs.declared.verdict.Verdict.{Verdict}
use Rattle.fs_model.specs.declared.verdict.Verdict.TheVariants as verdicts
use Rattle.fs_state.specs.Session.{FitsReason, FitsVerdict, MayBeFaulty, MayBeGood, first_unready, stands, verdict_places}
use Rattle.fs_state.specs.declared.plan.Plan.{Plan}
use Rattle.fs_state.specs.declared.plan.Plan.TheVariants as plans
use Rattle.core_parts.specs.Common.Entries.{IsShutBy}
use Rattle.fsck_core.specs.Entries.{IsDone, IsIdleIn, IsRefused, IsReleased, IsStarted, IsUnopened, NoneSaid, Says, SaysComparing, SaysOpen, SaysReopened, SaysStarting, SaysSwitching, entries_told}
use Rattle.fsck_core.specs.Moves.{IsNamed, Knows, KnowsDone, MayTell, StaysKnown}
use Rattle.fsck_core.specs.Told.{told_done, told_piece}
use Rattle.fsck_core.specs.declared.events.Event.{Event}
use Rattle.fsck_core.specs.declared.events.Event.TheVariants as events
use Rattle.quiet_repair.proofs.PlainLemmas.{ArePlain, end_fallen, end_fits, end_group, end_places, ended_by, plain_fallen, plain_group, plain_on, plain_places}
use Rattle.sblock.specs.declared.kind.Kind.{Kind}
use Rattle.sblock.specs.declared.kind.Kind.TheVariants.{Bno, Cnt, Rmap}
use Rattle.scrub_order.specs.Comes.{GivesUp, MayAnswer, MayRefuse, Stops, says}
use Rattle.scrub_order.specs.Course.{SaysAt}
use Rattle.scrub_order.specs.Laws.{behind}
use Rattle.scrub_order.specs.Orders.{ask_at, moved_by, took_in}
use Rattle.scrub_order.specs.Table.{found}
use Rattle.scrub_order.specs.declared.at.At.{At}
use Rattle.scrub_order.specs.declared.at.At.TheVariants as ats
use Rattle.scrub_order.specs.declared.order.Order.{Order}
use Rattle.unit_trust.specs.Laws.{AreOfFallen, AreOfGroup, EntriesAgree, LacksAlike, OpeningAgrees}
use Rattle.unit_trust.specs.Trusts.{Agrees, KnownBy, lacks}
use Rattle.quiet_repair.proofs.CourseLemmas.{FitsTold, is_due, is_over, skip_idle, stop_before, stops_idle, advance_fits, advance_says, close_fits, close_says, compare_says, false_true, faults_plain, gather_fits, gather_says, get_set, marks_plain, none_some, place_at, reap_says, reopen_says, reopen_stops, reserve_fits, reserve_says, says_told, scan_fits, scan_says, set_same, some_same, stage_says, start_says, stops_silent, stops_stop, switch_says, told_fallen, told_group, told_mute, told_said}
use Rattle.quiet_repair.specs.Courses.{Comes, HasOpen, past_in}
use Rattle.core_switch.specs.Says.{MarksRmap, ReapsRun, SaysBy, SaysReaping, SaysRun, reaped_of, released_by, released_of}
use Rattle.core_switch.specs.Reserves.{reserve_in}
use Rattle.core_switch.specs.Switched.{HasSwitchedBy}
use Rattle.core_build.specs.Says.{SaysReserving}
use Rattle.core_units.specs.declared.rebuild.Rebuild.{Rebuild}
use Rattle.scrub_order.specs.Course.{IsAtWork, SaysAt, is_open_at}
use Rattle.fsck_core.specs.Asks.{group_asked, phase_in_place, phase_of_group}
use Rattle.core_parts.specs.Safe.{AreUnits}
use Rattle.geom.specs.Places.{layout}
use Rattle.unit_trust.proofs.Places.{value_at}

module _ {D : Type 0} (law : EntriesAgree) (plan : Plan) (turns : ℕ) (p q : Parts D) (o : Order) where
  -- ---- the unit that is open

  -- an event was done on the order's own
  pub record Works (g : ℕ) (event : Event) (a : Answer) : Type 0 where
    pub done : IsDone g event p q a
    pub group : done.unit.group ≡ o.group
    pub unit : done.unit.unit ≡ o.unit
    pub as_planned : done.unit.plan ≡ plan
    pub as_turns : done.unit.turns ≡ turns
    pub fresh : stands done.unit.group done.unit.unit (past_in p) ≡ false

  same_state : (x y : UnitState) (us : List (Option UnitState)) (i : ℕ) → slice_get us i ≡ Some (Some x) → slice_get us i ≡ Some (Some y) → x ≡ y
  same_state x y us i is at = some_same x y (some_same (Some x) (Some y) (sym is ∙ at))

  fresh_at : (g : ℕ) (unit : ScrubUnit) → g ≡ o.group → unit ≡ o.unit → stands o.group o.unit (past_in p) ≡ false → stands g unit (past_in p) ≡ false
  fresh_at g unit group is fresh = subst (λ (h : ℕ). stands h unit (past_in p) ≡ false) (sym group) (subst (λ (u : ScrubUnit). stands o.group u (past_in p) ≡ false) (sym is) fresh)

  pub works_on : (event : Event) (a : Answer) (d : IsDone o.group event p q a) → HasOpen o.group o.unit plan turns p.units.items → stands o.group o.unit (past_in p) ≡ false → Works o.group event a
  works_on event a d has fresh =
      let same : d.unit ≡ has.state = same_state d.unit has.state p.units.items o.group d.place has.place in
      let is : d.unit.unit ≡ o.unit = ap (λ (u : UnitState). u.unit) same ∙ has.of in
      record {
        done = d;
        group = d.group;
        unit = is;
        as_planned = ap (λ (u : UnitState). u.plan) same ∙ has.as_planned;
        as_turns = ap (λ (u : UnitState). u.turns) same ∙ has.as_turns;
        fresh = fresh_at d.unit.group d.unit.unit d.group is fresh;
      }

  -- it is still, as long as it keeps its name
  open_on : (event : Event) (a : Answer) (w : Works o.group event a) → IsNamed w.done.unit w.done.later → HasOpen o.group o.unit plan turns q.units.items
  open_on event a w named = record {
    state = w.done.later;
    place = ap (λ (us : List (Option UnitState)). slice_get us o.group) w.done.units ∙ get_set p.units.items o.group (Some w.done.later) (Some w.done.unit) w.done.place;
    of = named.unit ∙ w.unit;
    as_planned = named.plan ∙ w.as_planned;
    as_turns = named.turns ∙ w.as_turns;
  }

  agree_on : (event : Event) (a : Answer) (w : Works o.group event a) (es : List Entry) → HasMore p.desk q.desk es → Knows p.desk q.desk w.done.says.before w.done.says.after → AreOfGroup w.done.unit.group es → AreOfFallen (past_in p) es
      → Agrees (past_in p) p.groups.items → Agrees (behind (past_in p) es) q.groups.items
  agree_on event a w es more knows group fallen agrees =
      subst (λ (ks : List GroupKept). Agrees (behind (past_in p) es) ks) (sym w.done.says.left)
      (law (past_in p) es w.done.unit.group p.groups.items w.done.says.before w.done.says.after agrees group fallen w.done.says.kept (knows es more))

  -- ---- entries that are told

  pub early_comes : (event : Event) (at : At) (ask : Ask) (a : Answer) (ph : Phase) (w : Works o.group event a) → HasMore p.desk q.desk (entries_told w.done.unit.group w.done.unit.unit a) → FitsTold turns a → ((r : Reason) → MayAnswer at (answers.Scrub (faults.GaveUp r)) ph)
      → says ask a ph ≡ says_told a → IsNamed w.done.unit w.done.later → Knows p.desk q.desk w.done.says.before w.done.says.after → Agrees (past_in p) p.groups.items → Comes plan turns p q o at ask a ph
  early_comes event at ask a ph w more fits may saying named knows agrees = record {
    es = entries_told w.done.unit.group w.done.unit.unit a;
    more = more;
    mute = told_mute turns w.done.unit.group w.done.unit.unit at ph a may fits;
    said = λ in_table. subst (λ (b : Bool). SaysAt p.desk.store.geo.agcount plan turns (past_in p) o b (entries_told w.done.unit.group w.done.unit.unit a)) (sym saying)
        (told_said p.desk.store.geo.agcount plan turns (past_in p) o w.done.unit.group w.done.unit.unit a w.group w.unit fits);
    opened = λ in_table at_work. open_on event a w named;
    agree = λ in_table goes. agree_on event a w (entries_told w.done.unit.group w.done.unit.unit a) more knows
        (told_group w.done.unit.group w.done.unit.unit a) (told_fallen w.done.unit.group w.done.unit.unit (past_in p) a w.fresh) agrees;
  }

  -- ---- entries without a verdict

  said_none : (ask : Ask) (a : Answer) (ph : Phase) (g : ℕ) (es : List Entry) → ArePlain g es → says ask a ph ≡ false → SaysAt p.desk.store.geo.agcount plan turns (past_in p) o (says ask a ph) es
  said_none ask a ph g es plain silent = subst (λ (b : Bool). SaysAt p.desk.store.geo.agcount plan turns (past_in p) o b es) (sym silent) (plain_places g es plain)

  pub plain_comes : (event : Event) (at : At) (ask : Ask) (a : Answer) (ph : Phase) (w : Works o.group event a) (es : List Entry) → HasMore p.desk q.desk es → ArePlain w.done.unit.group es → (MayAnswer at a ph → says ask a ph ≡ false)
      → (MayAnswer at a ph → IsAtWork (took_in o a ph) → IsNamed w.done.unit w.done.later) → Knows p.desk q.desk w.done.says.before w.done.says.after → Agrees (past_in p) p.groups.items → Comes plan turns p q o at ask a ph
  plain_comes event at ask a ph w es more plain silent named knows agrees = record {
    es = es;
    more = more;
    mute = λ out. plain_places w.done.unit.group es plain;
    said = λ in_table. said_none ask a ph w.done.unit.group es plain (silent in_table);
    opened = λ in_table at_work. open_on event a w (named in_table at_work);
    agree = λ in_table goes. agree_on event a w es more knows (plain_group w.done.unit.group es plain) (plain_fallen w.done.unit.group (past_in p) es plain) agrees;
  }

  -- ---- and with one at their end

  pub end_comes : (event : Event) (at : At) (ask : Ask) (a : Answer) (ph : Phase) (w : Works o.group event a) (es : List Entry) (verdict : Verdict) → HasMore p.desk q.desk (ended_by es w.done.unit.group w.done.unit.unit verdict) → ArePlain w.done.unit.group es
      → MayAnswer at a ph → says ask a ph ≡ true → ((past : List Entry) → FitsVerdict plan turns p.desk.store.geo.agcount past w.done.unit.group w.done.unit.unit verdict) → (IsAtWork (took_in o a ph) → IsNamed w.done.unit w.done.later)
      → Knows p.desk q.desk w.done.says.before w.done.says.after → Agrees (past_in p) p.groups.items → Comes plan turns p q o at ask a ph
  end_comes event at ask a ph w es verdict more plain may loud fits named knows agrees = record {
    es = ended_by es w.done.unit.group w.done.unit.unit verdict;
    more = more;
    mute = λ out. absurd (out may);
    said = λ in_table. subst (λ (b : Bool). SaysAt p.desk.store.geo.agcount plan turns (past_in p) o b (ended_by es w.done.unit.group w.done.unit.unit verdict)) (sym loud) (
      (end_places w.done.unit.group w.done.unit.group w.done.unit.unit verdict es plain ∙ place_at w.done.unit.group o.group w.done.unit.unit o.unit w.group w.unit),
      end_fits plan turns p.desk.store.geo.agcount w.done.unit.group w.done.unit.group w.done.unit.unit verdict (past_in p) es plain (fits (behind (past_in p) es)),
    );
    opened = λ in_table at_work. open_on event a w (named at_work);
    agree = λ in_table goes. agree_on event a w (ended_by es w.done.unit.group w.done.unit.unit verdict) more knows
        (end_group w.done.unit.group w.done.unit.unit verdict es plain) (end_fallen w.done.unit.group w.done.unit.group w.done.unit.unit verdict (past_in p) es plain w.fresh) agrees;
  }

  -- ---- nothing is done: the core is shut, or no unit is open there

  none_on : q.desk ≡ p.desk → HasMore p.desk q.desk []
  none_on same = ap (λ (k : Desk D). k.book.journal.items) same ∙ sym (append-nil p.desk.book.journal.items)

  pub shut_comes : (at : At) (ask : Ask) (n : ℕ) (ph : Phase) → says ask (answers.Scrub (faults.Shut n)) ph ≡ false → HasMore p.desk q.desk [] → Comes plan turns p q o at ask (answers.Scrub (faults.Shut n)) ph
  unfolding verdict_places
  shut_comes at ask n ph silent more = record {
    es = [];
    more = more;
    mute = λ out. refl;
    said = λ in_table. said_none ask (answers.Scrub (faults.Shut n)) ph 0 [] tt silent;
    opened = λ in_table at_work. absurd (stops_idle o (faults.Shut n) ph tt at_work);
    agree = λ in_table goes. absurd (stops_stop o (faults.Shut n) ph tt goes);
  }

  -- an answer that isn't in the table
  pub other_comes : (at : At) (ask : Ask) (a : Answer) (ph : Phase) → (MayAnswer at a ph → ⊥) → HasMore p.desk q.desk [] → Comes plan turns p q o at ask a ph
  unfolding verdict_places
  other_comes at ask a ph out more = record {
    es = [];
    more = more;
    mute = λ left. refl;
    said = λ in_table. absurd (out in_table);
    opened = λ in_table at_work. absurd (out in_table);
    agree = λ in_table goes. absurd (out in_table);
  }

  refused_by : (at : At) (ask : Ask) (g : ℕ) (f : ScrubFault) (ph : Phase) → ((n : ℕ) → says ask (answers.Scrub (faults.Shut n)) ph ≡ false) → ((x : Phase) → MayAnswer at (answers.Scrub (faults.OtherPhase x)) ph → ⊥)
      → IsShutBy p.desk f ⊎ IsIdleIn g p f → HasMore p.desk q.desk [] → Comes plan turns p q o at ask (answers.Scrub f) ph
  refused_by at ask g (faults.Shut n) ph silent other why more = shut_comes at ask n ph (silent n) more
  refused_by at ask g f ph silent other (inl shut) more = absurd shut
  refused_by at ask g f ph silent other (inr idle) more = other_comes at ask (answers.Scrub f) ph (λ may. other phases.Idle (subst (λ (x : ScrubFault). MayAnswer at (answers.Scrub x) ph) idle.told may)) more

  pub refused_comes : (at : At) (ask : Ask) (g : ℕ) (a : Answer) (ph : Phase) → ((n : ℕ) → says ask (answers.Scrub (faults.Shut n)) ph ≡ false) → ((x : Phase) → MayAnswer at (answers.Scrub (faults.OtherPhase x)) ph → ⊥) → IsRefused g p q a → Comes plan turns p q o at ask a ph
  refused_comes at ask g a ph silent other refused =
      subst (λ (b : Answer). Comes plan turns p q o at ask b ph) (sym refused.1) (refused_by at ask g refused.0 ph silent other refused.2.why (none_on refused.2.desk))

  -- ---- each event of an open unit

  phase_is : (event : Event) (a : Answer) (w : Works o.group event a) (ph : Phase) → ph ≡ phase_of_group q.units.items (Some o.group) → ph ≡ phase_in w.done.later.work
  phase_is event a w ph is = is ∙ (ap phase_in_place (ap (λ (us : List (Option UnitState)). slice_get us o.group) w.done.units ∙ get_set p.units.items o.group (Some w.done.later) (Some w.done.unit) w.done.place))

  none_more : NoneSaid p.desk q.desk → HasMore p.desk q.desk []
  none_more same = same ∙ sym (append-nil p.desk.book.journal.items)

  -- a comparison
  compared_open : (a : Answer) (ph : Phase) (w : Works o.group events.Compare a) (piece : List Fault) (b : Bool) → EndsOpen w.done.unit.group w.done.unit.unit piece p.desk q.desk w.done.later.work b → (b ≡ false) ⊎ (phase_in w.done.later.work ≡ phases.Building)
      → a ≡ answers.Part b → ph ≡ phase_in w.done.later.work → Agrees (past_in p) p.groups.items → Comes plan turns p q o ats.Compare (asks.ComparePiece o.group) a ph
  compared_open a ph w piece b ends (inl more) told phase agrees =
      plain_comes events.Compare ats.Compare (asks.ComparePiece o.group) a ph w (map (entry_of w.done.unit.group w.done.unit.unit) piece) ends.entries (faults_plain w.done.unit.group w.done.unit.unit piece)
      (λ may. subst (λ (x : Answer). says (asks.ComparePiece o.group) x ph ≡ false) (sym (told ∙ ap (λ (x : Bool). answers.Part x) more)) refl) (λ may work. w.done.says.moves.named) w.done.says.moves.known agrees
  compared_open a ph w piece false ends (inr rebuilt) told phase agrees =
      plain_comes events.Compare ats.Compare (asks.ComparePiece o.group) a ph w (map (entry_of w.done.unit.group w.done.unit.unit) piece) ends.entries (faults_plain w.done.unit.group w.done.unit.unit piece)
      (λ may. subst (λ (x : Answer). says (asks.ComparePiece o.group) x ph ≡ false) (sym told) refl) (λ may work. w.done.says.moves.named) w.done.says.moves.known agrees
  compared_open a ph w piece true ends (inr rebuilt) told phase agrees =
      plain_comes events.Compare ats.Compare (asks.ComparePiece o.group) a ph w (map (entry_of w.done.unit.group w.done.unit.unit) piece) ends.entries (faults_plain w.done.unit.group w.done.unit.unit piece)
      (λ may. subst (λ (x : Answer). says (asks.ComparePiece o.group) x ph ≡ false) (sym told) (subst (λ (x : Phase). says (asks.ComparePiece o.group) (answers.Part true) x ≡ false) (sym (phase ∙ rebuilt)) refl))
      (λ may work. w.done.says.moves.named) w.done.says.moves.known agrees

  -- the verdict fits whatever came before
  end_fit : (past : List Entry) (g : ℕ) (unit : ScrubUnit) (x : Plan) (verdict : Verdict) → x ≡ plan → MayEnd x verdict → FitsVerdict plan turns p.desk.store.geo.agcount past g unit verdict
  end_fit past g unit x verdicts.Good is fits = subst MayBeGood is fits
  end_fit past g unit x (verdicts.Faulty k) is fits = subst MayBeFaulty is fits
  end_fit past g unit x verdict is fits = absurd fits

  compared_judged : (a : Answer) (ph : Phase) (w : Works o.group events.Compare a) (piece : List Fault) (b : Bool) → EndsJudged w.done.unit.group w.done.unit.unit w.done.unit.plan piece p.desk q.desk w.done.later.work b
      → a ≡ answers.Part b → ph ≡ phase_in w.done.later.work → Agrees (past_in p) p.groups.items → Comes plan turns p q o ats.Compare (asks.ComparePiece o.group) a ph
  compared_judged a ph w piece b ends told phase agrees =
      let is : a ≡ answers.Part true = told ∙ ap (λ (x : Bool). answers.Part x) ends.told in
      let here : ph ≡ phases.Judged = phase ∙ ap phase_in ends.judged in
      end_comes events.Compare ats.Compare (asks.ComparePiece o.group) a ph w (map (entry_of w.done.unit.group w.done.unit.unit) piece) ends.verdict ends.entries (faults_plain w.done.unit.group w.done.unit.unit piece)
      (subst (λ (x : Answer). MayAnswer ats.Compare x ph) (sym is) (subst (λ (x : Phase). MayAnswer ats.Compare (answers.Part true) x) (sym here) tt))
      (subst (λ (x : Answer). says (asks.ComparePiece o.group) x ph ≡ true) (sym is) (subst (λ (x : Phase). says (asks.ComparePiece o.group) (answers.Part true) x ≡ true) (sym here) refl))
      (λ past. end_fit past w.done.unit.group w.done.unit.unit w.done.unit.plan ends.verdict w.as_planned ends.fits) (λ work. w.done.says.moves.named) w.done.says.moves.known agrees

  compared : (a : Answer) (ph : Phase) (w : Works o.group events.Compare a) (b : Bool) → EndsAs w.done.unit.group w.done.unit.unit w.done.unit.plan p.desk q.desk w.done.later.work b → a ≡ answers.Part b → ph ≡ phase_in w.done.later.work → Agrees (past_in p) p.groups.items
      → Comes plan turns p q o ats.Compare (asks.ComparePiece o.group) a ph
  compared a ph w b (piece, inl ends) told phase agrees = compared_open a ph w piece b ends ends.going told phase agrees
  compared a ph w b (piece, inr ends) told phase agrees = compared_judged a ph w piece b ends told phase agrees

  compared_by : (a : Answer) (ph : Phase) (w : Works o.group events.Compare a) (r : Result Bool ScrubFault) → a ≡ told_piece r → SaysComparing w.done.unit w.done.later w.done.says.before p.desk q.desk r → ph ≡ phase_in w.done.later.work → Agrees (past_in p) p.groups.items
      → Comes plan turns p q o ats.Compare (asks.ComparePiece o.group) a ph
  compared_by a ph w (Ok b) told it phase agrees = compared a ph w b (ends_as w.done.unit w.done.says.before.heads p.desk q.desk w.done.later.work b it.tells) told phase agrees
  compared_by a ph w (Err f) told says_it phase agrees =
      plain_comes events.Compare ats.Compare (asks.ComparePiece o.group) a ph w [] (none_more says_it.unsaid) tt
      (λ may. subst (λ (x : Answer). says (asks.ComparePiece o.group) x ph ≡ false) (sym told) (compare_says o.group f ph ∙ stops_silent f (subst (λ (x : Answer). MayAnswer ats.Compare x ph) told may)))
      (λ may work. w.done.says.moves.named) w.done.says.moves.known agrees

  -- a piece of the reserving
  takes_comes : (a : Answer) (b : Bool) (ph : Phase) (w : Works o.group events.Reserve a) (block : ℕ) (spare : Bool) (r s : Rebuild) → a ≡ answers.Part b → Takes w.done.unit.group w.done.unit.unit block spare r s w.done.says.before w.done.says.after p.desk q.desk
      → Agrees (past_in p) p.groups.items → Comes plan turns p q o ats.Reserve (asks.ReservePiece o.group) a ph
  takes_comes a b ph w block spare r s told takes agrees =
      plain_comes events.Reserve ats.Reserve (asks.ReservePiece o.group) a ph w (reserved_of w.done.unit.group w.done.unit.unit block spare takes.left) takes.entries
      (tt, marks_plain w.done.unit.group takes.left.bno takes.left.cnt takes.left.rmap)
      (λ may. subst (λ (x : Answer). says (asks.ReservePiece o.group) x ph ≡ false) (sym told) refl) (λ may work. w.done.says.moves.named) w.done.says.moves.known agrees

  does_comes : (a : Answer) (b : Bool) (ph : Phase) (w : Works o.group events.Reserve a) (next : Next) (r s : Rebuild) → a ≡ answers.Part b → Does w.done.unit.group w.done.unit.unit next b r s w.done.says.before w.done.says.after p.desk q.desk
      → Agrees (past_in p) p.groups.items → Comes plan turns p q o ats.Reserve (asks.ReservePiece o.group) a ph
  does_comes a b ph w nexts.Met r s told does agrees =
      plain_comes events.Reserve ats.Reserve (asks.ReservePiece o.group) a ph w [] does.1 tt
      (λ may. subst (λ (x : Answer). says (asks.ReservePiece o.group) x ph ≡ false) (sym told) refl) (λ may work. w.done.says.moves.named) w.done.says.moves.known agrees
  does_comes a b ph w (nexts.GaveUp reason) r s told does agrees = absurd does
  does_comes a b ph w (nexts.Listed block) r s told does agrees = takes_comes a b ph w block false r s told does agrees
  does_comes a b ph w (nexts.Spare block) r s told (inl takes) agrees = takes_comes a b ph w block true r s told takes agrees
  does_comes a b ph w (nexts.Spare block) r s told (inr leaves) agrees =
      plain_comes events.Reserve ats.Reserve (asks.ReservePiece o.group) a ph w (entries.Marked w.done.unit.group Rmap leaves.unnoted.cause ∷ []) leaves.unnoted.entries (refl, tt)
      (λ may. subst (λ (x : Answer). says (asks.ReservePiece o.group) x ph ≡ false) (sym told) refl) (λ may work. w.done.says.moves.named) w.done.says.moves.known agrees

  err_told : (g : ℕ) (unit : ScrubUnit) (f : ScrubFault) (a : Answer) → a ≡ answers.Scrub f → HasMore p.desk q.desk (entries_on g unit f) → HasMore p.desk q.desk (entries_told g unit a)
  err_told g unit f a told more = subst (λ (b : Answer). HasMore p.desk q.desk (entries_told g unit b)) (sym told) more

  reserved_by : (a : Answer) (ph : Phase) (w : Works o.group events.Reserve a) (r : Result Bool ScrubFault) → a ≡ told_piece r
      → SaysReserving w.done.unit.group w.done.unit.unit w.done.unit.work w.done.later.work w.done.says.before w.done.says.after p.desk q.desk r → Agrees (past_in p) p.groups.items → Comes plan turns p q o ats.Reserve (asks.ReservePiece o.group) a ph
  reserved_by a ph w (Ok b) told it agrees = does_comes a b ph w it.2.next it.0 it.2.built told it.2.does agrees
  reserved_by a ph w (Err f) told it agrees =
      early_comes events.Reserve ats.Reserve (asks.ReservePiece o.group) a ph w (err_told w.done.unit.group w.done.unit.unit f a told it.1)
      (subst (FitsTold turns) (sym told) (subst (λ (n : ℕ). FitsTold n (answers.Scrub f)) w.as_turns (reserve_fits w.done.unit.turns f (subst (MayTell events.Reserve w.done.unit.turns) told w.done.says.moves.may))))
      (λ reason. tt) (subst (λ (b : Answer). says (asks.ReservePiece o.group) b ph ≡ says_told b) (sym told) (reserve_says o.group f ph)) w.done.says.moves.named w.done.says.moves.known agrees

  -- a piece of the staging
  stage_silent : (g : ℕ) (a : Answer) (ph : Phase) → MayAnswer ats.Stage a ph → says (asks.StagePiece g) a ph ≡ false
  stage_silent g (answers.Scrub f) ph may = stage_says g f ph ∙ stops_silent f may
  stage_silent g a ph may = refl

  staged_comes : (a : Answer) (ph : Phase) (w : Works o.group events.Stage a) → NoneSaid p.desk q.desk → Agrees (past_in p) p.groups.items → Comes plan turns p q o ats.Stage (asks.StagePiece o.group) a ph
  staged_comes a ph w none agrees = plain_comes events.Stage ats.Stage (asks.StagePiece o.group) a ph w [] (none_more none) tt (stage_silent o.group a ph) (λ may work. w.done.says.moves.named) w.done.says.moves.known agrees

  -- a switch
  done_idle : (ph : Phase) → o.at ≡ ats.Switch → IsAtWork (took_in o answers.Done ph) → ⊥
  done_idle ph at work = false_true (subst (λ (x : At). is_open_at (moved_by (found o.unit x answers.Done ph) o).at ≡ true) at work)

  switched_ok : (work : Work) (a : Answer) (ph : Phase) (w : Works o.group events.Switch a) → o.at ≡ ats.Switch → a ≡ answers.Done → HasSwitchedBy work w.done.unit p.desk.book q.desk.book w.done.says.before w.done.says.after → Agrees (past_in p) p.groups.items
      → Comes plan turns p q o ats.Switch (asks.Switch o.group) a ph
  switched_ok (works.Staged rebuild staged) a ph w at told has agrees =
      end_comes events.Switch ats.Switch (asks.Switch o.group) a ph w (entries.Switched w.done.unit.group w.done.unit.unit staged.root staged.second_root ∷ []) verdicts.Rebuilt has.1 (tt, tt)
      (subst (λ (b : Answer). MayAnswer ats.Switch b ph) (sym told) tt) (subst (λ (b : Answer). says (asks.Switch o.group) b ph ≡ true) (sym told) refl) (λ past. tt)
      (λ work. absurd (done_idle ph at (subst (λ (b : Answer). IsAtWork (took_in o b ph)) told work))) w.done.says.moves.known agrees
  switched_ok (works.Scanning s) a ph w at told has agrees = absurd has
  switched_ok (works.Open x) a ph w at told has agrees = absurd has
  switched_ok (works.Closed x) a ph w at told has agrees = absurd has
  switched_ok (works.Gathering x) a ph w at told has agrees = absurd has
  switched_ok (works.Gathered j) a ph w at told has agrees = absurd has
  switched_ok (works.Chosen j) a ph w at told has agrees = absurd has
  switched_ok (works.Building r) a ph w at told has agrees = absurd has
  switched_ok (works.Reserved r s) a ph w at told has agrees = absurd has
  switched_ok (works.Spent r) a ph w at told has agrees = absurd has
  switched_ok works.Judged a ph w at told has agrees = absurd has

  switched_by : (a : Answer) (ph : Phase) (w : Works o.group events.Switch a) (r : Result (Unit {0}) ScrubFault) → o.at ≡ ats.Switch → a ≡ told_done r → SaysSwitching w.done.unit w.done.says.before w.done.says.after p.desk q.desk r → Agrees (past_in p) p.groups.items
      → Comes plan turns p q o ats.Switch (asks.Switch o.group) a ph
  switched_by a ph w (Ok x) at told it agrees = switched_ok w.done.unit.work a ph w at told it.switched agrees
  switched_by a ph w (Err f) at told it agrees =
      plain_comes events.Switch ats.Switch (asks.Switch o.group) a ph w [] (none_more it.unsaid) tt
      (λ may. subst (λ (b : Answer). says (asks.Switch o.group) b ph ≡ false) (sym told) (switch_says o.group f ph ∙ stops_silent f (subst (λ (b : Answer). MayAnswer ats.Switch b ph) told may)))
      (λ may work. absurd (stops_idle o f ph (subst (λ (b : Answer). MayAnswer ats.Switch b ph) told may) (subst (λ (b : Answer). IsAtWork (took_in o b ph)) told work))) w.done.says.moves.known agrees

  -- ---- after the verdict

  -- an event of a unit that has it
  idle_comes : (event : Event) (at : At) (ask : Ask) (a : Answer) (ph : Phase) (d : IsDone o.group event p q a) (es : List Entry) → HasMore p.desk q.desk es → ArePlain d.unit.group es → (MayAnswer at a ph → says ask a ph ≡ false) → (MayAnswer at a ph → IsAtWork (took_in o a ph) → ⊥)
      → (MayAnswer at a ph → (took_in o a ph).stop ≡ None → Knows p.desk q.desk d.says.before d.says.after) → (o.stop ≡ None → Agrees (past_in p) p.groups.items) → Comes plan turns p q o at ask a ph
  idle_comes event at ask a ph d es more plain silent idle knows agrees = record {
    es = es;
    more = more;
    mute = λ out. plain_places d.unit.group es plain;
    said = λ in_table. said_none ask a ph d.unit.group es plain (silent in_table);
    opened = λ in_table at_work. absurd (idle in_table at_work);
    agree = λ in_table goes. subst (λ (ks : List GroupKept). Agrees (behind (past_in p) es) ks) (sym d.says.left)
        (law (past_in p) es d.unit.group p.groups.items d.says.before d.says.after (agrees (stop_before o a ph goes)) (plain_group d.unit.group es plain) (plain_fallen d.unit.group (past_in p) es plain) d.says.kept (knows in_table goes es more));
  }

  run_entries : (g : ℕ) (b : Bool) (run : LimboRun) (x y : GroupKept) → SaysRun g run x y p.desk q.desk (Ok b) → (es : List Entry) × (HasMore p.desk q.desk es × ArePlain g es)
  run_entries g b run x y (inl reaps) = (reaped_of g run reaps.left, (reaps.entries, (tt, marks_plain g reaps.left.bno reaps.left.cnt reaps.left.rmap)))
  run_entries g b run x y (inr marks) = (entries.Marked g Rmap marks.cause ∷ [], (marks.entries, (refl, tt)))

  reap_entries : (g : ℕ) (r : Result Bool ScrubFault) (x y : GroupKept) → SaysReaping g x y p.desk q.desk r → (es : List Entry) × (HasMore p.desk q.desk es × ArePlain g es)
  reap_entries g (Ok b) x y (inl none) = ([], (none.entries, tt))
  reap_entries g (Ok b) x y (inr it) = run_entries g b it.0 x y it.1.1
  reap_entries g (Err f) x y none = ([], (none_more none, tt))

  reap_silent : (g : ℕ) (a : Answer) (ph : Phase) → MayAnswer ats.Reap a ph → says (asks.ReapPiece g) a ph ≡ false
  reap_silent g (answers.Scrub f) ph may = reap_says g f ph ∙ stops_silent f may
  reap_silent g a ph may = refl

  once_silent : (g : ℕ) (a : Answer) (ph : Phase) → MayAnswer ats.ReapOnce a ph → says (asks.ReapPiece g) a ph ≡ false
  once_silent g (answers.Scrub f) ph may = reap_says g f ph ∙ stops_silent f may
  once_silent g a ph may = refl

  -- what is known after a reaping, which goes on
  reap_known : (at : At) (a : Answer) (ph : Phase) (x y : GroupKept) → ((f : ScrubFault) → MayAnswer at (answers.Scrub f) ph → Stops f) → KnowsDone p.desk q.desk x y a → MayAnswer at a ph → (took_in o a ph).stop ≡ None → Knows p.desk q.desk x y
  reap_known at (answers.Scrub f) ph x y stops known may goes = absurd (stops_stop o f ph (stops f may) goes)
  reap_known at (answers.Chain c) ph x y stops known may goes = known
  reap_known at (answers.Taken i c) ph x y stops known may goes = known
  reap_known at (answers.Blocks k) ph x y stops known may goes = known
  reap_known at answers.Done ph x y stops known may goes = known
  reap_known at (answers.At i) ph x y stops known may goes = known
  reap_known at answers.End ph x y stops known may goes = known
  reap_known at (answers.Part b) ph x y stops known may goes = known
  reap_known at (answers.Write f) ph x y stops known may goes = known

  reaped_by : (at : At) (a : Answer) (ph : Phase) (d : IsDone o.group events.Reap p q a) → (MayAnswer at a ph → says (asks.ReapPiece o.group) a ph ≡ false) → ((f : ScrubFault) → MayAnswer at (answers.Scrub f) ph → Stops f) → (MayAnswer at a ph → IsAtWork (took_in o a ph) → ⊥)
      → (o.stop ≡ None → Agrees (past_in p) p.groups.items) → Comes plan turns p q o at (asks.ReapPiece o.group) a ph
  reaped_by at a ph d silent stops idle agrees =
      let came : (es : List Entry) × (HasMore p.desk q.desk es × ArePlain d.unit.group es) = reap_entries d.unit.group d.says.says.0 d.says.before d.says.after d.says.says.2 in
      idle_comes events.Reap at (asks.ReapPiece o.group) a ph d came.0 came.1.0 came.1.1 silent idle (reap_known at a ph d.says.before d.says.after stops d.says.moves.known) agrees

  -- ---- a group is opened again

  released_plain : (g : ℕ) (unit : ScrubUnit) (bs : List ℕ) → ArePlain g (released_of g unit bs)
  released_plain g unit [] = tt
  released_plain g unit (b ∷ bs) = (tt, tt)

  released_known : (g : ℕ) (unit : ScrubUnit) (bs : List ℕ) (x y : GroupKept) → y.trust ≡ x.trust → y.passed ≡ x.passed → KnownBy (released_of g unit bs) x y
  released_known g unit [] x y trust passed = record { trust = trust; passed = passed }
  released_known g unit (b ∷ bs) x y trust passed = record { trust = trust; passed = passed }

  reopened_by : (a : Answer) (ph : Phase) (u : UnitState) (r : Result (Unit {0}) ScrubFault) → u.group ≡ o.group → a ≡ told_done r → SaysBy (released_by u) p.desk q.desk r → StaysKnown o.group p.groups.items q.groups.items → (MayAnswer ats.Reopen a ph → IsAtWork (took_in o a ph) → ⊥)
      → (o.stop ≡ None → Agrees (past_in p) p.groups.items) → Comes plan turns p q o ats.Reopen (asks.Reopen o.group) a ph
  reopened_by a ph u (Ok x) group told it known idle agrees = record {
    es = released_by u;
    more = it;
    mute = λ out. plain_places u.group (released_by u) (released_plain u.group u.unit (reserve_in u.work));
    said = λ in_table. said_none (asks.Reopen o.group) a ph u.group (released_by u) (released_plain u.group u.unit (reserve_in u.work)) (subst (λ (b : Answer). says (asks.Reopen o.group) b ph ≡ false) (sym told) refl);
    opened = λ in_table at_work. absurd (idle in_table at_work);
    agree = λ in_table goes. subst (λ (ks : List GroupKept). Agrees (behind (past_in p) (released_by u)) ks) (sym known.left)
        (law (past_in p) (released_by u) o.group p.groups.items known.before known.after (agrees (stop_before o a ph goes))
        (subst (λ (g : ℕ). AreOfGroup g (released_by u)) group (plain_group u.group (released_by u) (released_plain u.group u.unit (reserve_in u.work))))
        (plain_fallen u.group (past_in p) (released_by u) (released_plain u.group u.unit (reserve_in u.work))) known.kept
        (released_known u.group u.unit (reserve_in u.work) known.before known.after known.trust known.passed));
  }
  reopened_by a ph u (Err f) group told none known idle agrees = record {
    es = [];
    more = none_more none;
    mute = λ out. plain_places 0 [] tt;
    said = λ in_table. said_none (asks.Reopen o.group) a ph 0 [] tt
        (subst (λ (b : Answer). says (asks.Reopen o.group) b ph ≡ false) (sym told) (reopen_says o.group f ph ∙ stops_silent f (reopen_stops f (subst (λ (b : Answer). MayAnswer ats.Reopen b ph) told in_table))));
    opened = λ in_table at_work. absurd (idle in_table at_work);
    agree = λ in_table goes. absurd (stops_stop o f ph (reopen_stops f (subst (λ (b : Answer). MayAnswer ats.Reopen b ph) told in_table)) (subst (λ (b : Answer). (took_in o b ph).stop ≡ None) told goes));
  }

  -- ---- a unit is opened, or isn't

  module _ (alike : LacksAlike) (opening : OpeningAgrees) where
    alike_at : (past : List Entry) (ks : List GroupKept) (n g : ℕ) (unit : ScrubUnit) → length ks ≡ n → g < n → Agrees past ks → lacks ks n g unit ≡ first_unready n past g unit
    alike_at past ks n g unit all lt agrees = subst (λ (m : ℕ). lacks ks m g unit ≡ first_unready m past g unit) all (alike past g unit ks agrees (subst (λ (m : ℕ). g < m) (sym all) lt))

    -- it is skipped
    skipped_comes : (h : ℕ) (u : ScrubUnit) (ph : Phase) (kept : GroupKept) → HasMore p.desk q.desk (entries_on o.group o.unit (faults.Skipped h u)) → first_unready p.desk.store.geo.agcount (past_in p) o.group o.unit ≡ Some (h, u)
        → slice_get p.groups.items o.group ≡ Some kept → q.groups ≡ p.groups → stands o.group o.unit (past_in p) ≡ false → (IsAtWork (took_in o (answers.Scrub (faults.Skipped h u)) ph) → ⊥) → Agrees (past_in p) p.groups.items
        → Comes plan turns p q o ats.Start (asks.Start o.group o.unit o.plan o.turns) (answers.Scrub (faults.Skipped h u)) ph
    unfolding verdict_places
    skipped_comes h u ph kept more unready at same fresh idle agrees = record {
      es = entries.Verdict o.group o.unit (verdicts.Skipped h u) ∷ [];
      more = more;
      mute = λ out. absurd (out tt);
      said = λ in_table. (refl, (unready, tt));
      opened = λ in_table at_work. absurd (idle at_work);
      agree = λ in_table goes. subst (λ (ks : List GroupKept). Agrees (behind (past_in p) (entries.Verdict o.group o.unit (verdicts.Skipped h u) ∷ [])) ks)
          (set_same p.groups.items o.group kept at ∙ ap (λ (v : Vec GroupKept). v.items) (sym same))
          (law (past_in p) (entries.Verdict o.group o.unit (verdicts.Skipped h u) ∷ []) o.group p.groups.items kept kept agrees (refl, tt) ((λ fails. fresh), tt) at (record { trust = refl; passed = refl }));
    }

    -- it is not, for want of room or by what is open
    unopened_comes : (f : ScrubFault) (ph : Phase) → HasMore p.desk q.desk [] → says_told (answers.Scrub f) ≡ false → (MayAnswer ats.Start (answers.Scrub f) ph → Stops f) → Comes plan turns p q o ats.Start (asks.Start o.group o.unit o.plan o.turns) (answers.Scrub f) ph
    unopened_comes f ph more silent stops = record {
      es = [];
      more = more;
      mute = λ out. plain_places 0 [] tt;
      said = λ in_table. said_none (asks.Start o.group o.unit o.plan o.turns) (answers.Scrub f) ph 0 [] tt (start_says o.group o.unit o.plan o.turns f ph ∙ silent);
      opened = λ in_table at_work. absurd (stops_idle o f ph (stops in_table) at_work);
      agree = λ in_table goes. absurd (stops_stop o f ph (stops in_table) goes);
    }

    barred_comes : (f : ScrubFault) (ph : Phase) (kept : GroupKept) → HasMore p.desk q.desk (entries_on o.group o.unit f) → IsShutBy p.desk f ⊎ MayBar (lacks p.groups.items p.desk.store.geo.agcount o.group o.unit) f
        → slice_get p.groups.items o.group ≡ Some kept → length p.groups.items ≡ p.desk.store.geo.agcount → o.group < p.desk.store.geo.agcount → q.groups ≡ p.groups → stands o.group o.unit (past_in p) ≡ false
        → ((h : ℕ) (u : ScrubUnit) → IsAtWork (took_in o (answers.Scrub (faults.Skipped h u)) ph) → ⊥) → Agrees (past_in p) p.groups.items → Comes plan turns p q o ats.Start (asks.Start o.group o.unit o.plan o.turns) (answers.Scrub f) ph
    barred_comes (faults.Skipped h u) ph kept more (inl shut) at all lt same fresh idle agrees = absurd shut
    barred_comes (faults.Skipped h u) ph kept more (inr bar) at all lt same fresh idle agrees =
        skipped_comes h u ph kept more (sym (alike_at (past_in p) p.groups.items p.desk.store.geo.agcount o.group o.unit all lt agrees) ∙ bar) at same fresh (idle h u) agrees
    barred_comes (faults.Shut n) ph kept more why at all lt same fresh idle agrees = unopened_comes (faults.Shut n) ph more refl (λ may. tt)
    barred_comes faults.JournalFull ph kept more why at all lt same fresh idle agrees = unopened_comes faults.JournalFull ph more refl (λ may. tt)
    barred_comes faults.Memory ph kept more why at all lt same fresh idle agrees = unopened_comes faults.Memory ph more refl (λ may. tt)
    barred_comes (faults.UnitOpen h u) ph kept more why at all lt same fresh idle agrees = unopened_comes (faults.UnitOpen h u) ph more refl (λ may. may)
    barred_comes f ph kept more (inl shut) at all lt same fresh idle agrees = absurd shut
    barred_comes f ph kept more (inr bar) at all lt same fresh idle agrees = absurd bar

    -- it is
    started_comes : (a : Answer) (ph : Phase) → HasMore p.desk q.desk (entries_told o.group o.unit a) → IsStarted o.group o.unit o.plan o.turns p q a → o.plan ≡ plan → o.turns ≡ turns → stands o.group o.unit (past_in p) ≡ false → (was : Option UnitState) → slice_get p.units.items o.group ≡ Some was
        → Agrees (past_in p) p.groups.items → Comes plan turns p q o ats.Start (asks.Start o.group o.unit o.plan o.turns) a ph
    started_comes a ph more starts plan_is turns_is fresh was at agrees = record {
      es = [];
      more = subst (λ (b : Answer). HasMore p.desk q.desk (entries_told o.group o.unit b)) starts.told more;
      mute = λ out. plain_places 0 [] tt;
      said = λ in_table. said_none (asks.Start o.group o.unit o.plan o.turns) a ph 0 [] tt (subst (λ (b : Answer). says (asks.Start o.group o.unit o.plan o.turns) b ph ≡ false) (sym starts.told) refl);
      opened = λ in_table at_work. record {
        state = record { group = o.group; unit = o.unit; plan = o.plan; turns = o.turns; asked = 0; work = starts.opened.work };
        place = ap (λ (us : List (Option UnitState)). slice_get us o.group) starts.opened.units ∙ get_set p.units.items o.group (Some (record { group = o.group; unit = o.unit; plan = o.plan; turns = o.turns; asked = 0; work = starts.opened.work })) was at;
        of = refl;
        as_planned = plan_is;
        as_turns = turns_is;
      };
      agree = λ in_table goes. subst (λ (ks : List GroupKept). Agrees (past_in p) ks) (sym starts.cleared.left)
          (opening (past_in p) o.group o.unit p.groups.items starts.cleared.before starts.cleared.after agrees fresh starts.cleared.kept starts.cleared.trust starts.cleared.passed);
    }

    -- ---- what the order asks

    opens_by : (a : Answer) (ph : Phase) → HasMore p.desk q.desk (entries_told o.group o.unit a) → IsUnopened o.group o.unit p q a ⊎ IsStarted o.group o.unit o.plan o.turns p q a → (kept : GroupKept) → slice_get p.groups.items o.group ≡ Some kept
        → length p.groups.items ≡ p.desk.store.geo.agcount → o.group < p.desk.store.geo.agcount → (was : Option UnitState) → slice_get p.units.items o.group ≡ Some was → o.plan ≡ plan → o.turns ≡ turns → stands o.group o.unit (past_in p) ≡ false
        → ((h : ℕ) (u : ScrubUnit) → IsAtWork (took_in o (answers.Scrub (faults.Skipped h u)) ph) → ⊥) → Agrees (past_in p) p.groups.items → Comes plan turns p q o ats.Start (asks.Start o.group o.unit o.plan o.turns) a ph
    opens_by a ph more (inl aside) kept at all lt was place plan_is turns_is fresh idle agrees =
        subst (λ (b : Answer). Comes plan turns p q o ats.Start (asks.Start o.group o.unit o.plan o.turns) b ph) (sym aside.told)
        (barred_comes aside.fault ph kept (subst (λ (b : Answer). HasMore p.desk q.desk (entries_told o.group o.unit b)) aside.told more) aside.why at all lt aside.aside.groups fresh idle agrees)
    opens_by a ph more (inr starts) kept at all lt was place plan_is turns_is fresh idle agrees = started_comes a ph more starts plan_is turns_is fresh was place agrees

    -- all that is known before an answer
    pub record Before : Type 0 where
      pub all : length p.groups.items ≡ p.desk.store.geo.agcount
      pub units_all : length p.units.items ≡ p.desk.store.geo.agcount
      pub inside : o.group < p.desk.store.geo.agcount
      pub planned : o.plan ≡ plan
      pub turned : o.turns ≡ turns
      pub agrees : o.stop ≡ None → Agrees (past_in p) p.groups.items
      pub at_work : is_open_at o.at ≡ true → HasOpen o.group o.unit plan turns p.units.items
      pub due : is_due o.at ≡ true → (stands o.group o.unit (past_in p) ≡ false) × (o.stop ≡ None)
      pub idle : (at : At) → o.at ≡ at → is_over at ≡ true → (a : Answer) (ph : Phase) → MayAnswer at a ph → IsAtWork (took_in o a ph) → ⊥

    some_in : {X : Type 0} (xs : List X) (n g : ℕ) → length xs ≡ n → g < n → (x : X) × (slice_get xs g ≡ Some x)
    some_in xs n g all lt = value_at xs g (subst (λ (m : ℕ). g < m) (sym all) lt)

    -- an event of an open unit, unless it is refused
    asked_open : (event : Event) (at : At) (ask : Ask) (a : Answer) (ph : Phase) → SaysOpen o.group event p q a → ((n : ℕ) → says ask (answers.Scrub (faults.Shut n)) ph ≡ false) → ((x : Phase) → MayAnswer at (answers.Scrub (faults.OtherPhase x)) ph → ⊥)
        → HasOpen o.group o.unit plan turns p.units.items → stands o.group o.unit (past_in p) ≡ false → ((w : Works o.group event a) → Comes plan turns p q o at ask a ph) → Comes plan turns p q o at ask a ph
    asked_open event at ask a ph (inl refused) silent other has fresh done = refused_comes at ask o.group a ph silent other refused
    asked_open event at ask a ph (inr is) silent other has fresh done = done (works_on event a is has fresh)

    asked_late : (at : At) (a : Answer) (ph : Phase) → SaysOpen o.group events.Reap p q a → ((x : Phase) → MayAnswer at (answers.Scrub (faults.OtherPhase x)) ph → ⊥) → (MayAnswer at a ph → says (asks.ReapPiece o.group) a ph ≡ false) → ((f : ScrubFault) → MayAnswer at (answers.Scrub f) ph → Stops f)
        → (MayAnswer at a ph → IsAtWork (took_in o a ph) → ⊥) → (o.stop ≡ None → Agrees (past_in p) p.groups.items) → Comes plan turns p q o at (asks.ReapPiece o.group) a ph
    asked_late at a ph (inl refused) other silent stops idle agrees = refused_comes at (asks.ReapPiece o.group) o.group a ph (λ n. refl) other refused
    asked_late at a ph (inr done) other silent stops idle agrees = reaped_by at a ph done silent stops idle agrees

    asked_reopen : (a : Answer) (ph : Phase) → SaysReopened o.group p q a → (MayAnswer ats.Reopen a ph → IsAtWork (took_in o a ph) → ⊥) → (o.stop ≡ None → Agrees (past_in p) p.groups.items) → AreUnits (layout p.desk.store.geo) p.units.items → Comes plan turns p q o ats.Reopen (asks.Reopen o.group) a ph
    asked_reopen a ph (inl refused) idle agrees units = refused_comes ats.Reopen (asks.Reopen o.group) o.group a ph (λ n. refl) (λ x may. may) refused
    asked_reopen a ph (inr released) idle agrees units =
        reopened_by a ph released.unit released.says.0 (units o.group released.unit released.place).0 released.says.1 released.says.2 released.known idle agrees

    -- what comes for each position of the order
    pub comes_at : (at : At) (ask : Ask) (a : Answer) (ph : Phase) → Before → AreUnits (layout p.desk.store.geo) p.units.items → o.at ≡ at → ask_at at o ≡ Some ask → Says ask p q a → ph ≡ phase_of_group q.units.items (group_asked ask) → Comes plan turns p q o at ask a ph
    unfolding Says
    comes_at ats.Start ask a ph b units at asked says_it phase =
        let is : asks.Start o.group o.unit o.plan o.turns ≡ ask = some_same (asks.Start o.group o.unit o.plan o.turns) ask asked in
        let it : SaysStarting o.group o.unit o.plan o.turns p q a = subst (λ (x : Ask). Says x p q a) (sym is) says_it in
        let kept : (k : GroupKept) × (slice_get p.groups.items o.group ≡ Some k) = some_in p.groups.items p.desk.store.geo.agcount o.group b.all b.inside in
        let place : (x : Option UnitState) × (slice_get p.units.items o.group ≡ Some x) = some_in p.units.items p.desk.store.geo.agcount o.group b.units_all b.inside in
        let due : (stands o.group o.unit (past_in p) ≡ false) × (o.stop ≡ None) = b.due (ap is_due at) in
        subst (λ (x : Ask). Comes plan turns p q o ats.Start x a ph) is
        (opens_by a ph it.entries it.comes kept.0 kept.1 b.all b.inside place.0 place.1 b.planned b.turned due.0 (skip_idle o ph) (b.agrees due.1))
    comes_at ats.Advance ask a ph b units at asked says_it phase =
        let is : asks.Advance o.group ≡ ask = some_same (asks.Advance o.group) ask asked in
        let it : SaysOpen o.group events.Advance p q a = subst (λ (x : Ask). Says x p q a) (sym is) says_it in
        let due : (stands o.group o.unit (past_in p) ≡ false) × (o.stop ≡ None) = b.due (ap is_due at) in
        subst (λ (x : Ask). Comes plan turns p q o ats.Advance x a ph) is
        (asked_open events.Advance ats.Advance (asks.Advance o.group) a ph it (λ n. refl) (λ x may. may) (b.at_work (ap is_open_at at)) due.0
        (λ w. early_comes events.Advance ats.Advance (asks.Advance o.group) a ph w w.done.says.says (subst (λ (n : ℕ). FitsTold n a) w.as_turns (advance_fits w.done.unit.turns a w.done.says.moves.may)) (λ reason. tt)
        (advance_says o.group a ph) w.done.says.moves.named w.done.says.moves.known (b.agrees due.1)))
    comes_at ats.Scan ask a ph b units at asked says_it phase =
        let is : asks.ScanPiece o.group ≡ ask = some_same (asks.ScanPiece o.group) ask asked in
        let it : SaysOpen o.group events.Scan p q a = subst (λ (x : Ask). Says x p q a) (sym is) says_it in
        let due : (stands o.group o.unit (past_in p) ≡ false) × (o.stop ≡ None) = b.due (ap is_due at) in
        subst (λ (x : Ask). Comes plan turns p q o ats.Scan x a ph) is
        (asked_open events.Scan ats.Scan (asks.ScanPiece o.group) a ph it (λ n. refl) (λ x may. may) (b.at_work (ap is_open_at at)) due.0
        (λ w. early_comes events.Scan ats.Scan (asks.ScanPiece o.group) a ph w w.done.says.says (subst (λ (n : ℕ). FitsTold n a) w.as_turns (scan_fits w.done.unit.turns a w.done.says.moves.may)) (λ reason. tt)
        (scan_says o.group a ph) w.done.says.moves.named w.done.says.moves.known (b.agrees due.1)))
    comes_at ats.Close ask a ph b units at asked says_it phase =
        let is : asks.Close o.group ≡ ask = some_same (asks.Close o.group) ask asked in
        let it : SaysOpen o.group events.Close p q a = subst (λ (x : Ask). Says x p q a) (sym is) says_it in
        let due : (stands o.group o.unit (past_in p) ≡ false) × (o.stop ≡ None) = b.due (ap is_due at) in
        subst (λ (x : Ask). Comes plan turns p q o ats.Close x a ph) is
        (asked_open events.Close ats.Close (asks.Close o.group) a ph it (λ n. refl) (λ x may. may) (b.at_work (ap is_open_at at)) due.0
        (λ w. early_comes events.Close ats.Close (asks.Close o.group) a ph w w.done.says.says (subst (λ (n : ℕ). FitsTold n a) w.as_turns (close_fits w.done.unit.turns a w.done.says.moves.may)) (λ reason. tt)
        (close_says o.group a ph) w.done.says.moves.named w.done.says.moves.known (b.agrees due.1)))
    comes_at ats.Gather ask a ph b units at asked says_it phase =
        let is : asks.GatherPiece o.group ≡ ask = some_same (asks.GatherPiece o.group) ask asked in
        let it : SaysOpen o.group events.Gather p q a = subst (λ (x : Ask). Says x p q a) (sym is) says_it in
        let due : (stands o.group o.unit (past_in p) ≡ false) × (o.stop ≡ None) = b.due (ap is_due at) in
        subst (λ (x : Ask). Comes plan turns p q o ats.Gather x a ph) is
        (asked_open events.Gather ats.Gather (asks.GatherPiece o.group) a ph it (λ n. refl) (λ x may. may) (b.at_work (ap is_open_at at)) due.0
        (λ w. early_comes events.Gather ats.Gather (asks.GatherPiece o.group) a ph w w.done.says.says (subst (λ (n : ℕ). FitsTold n a) w.as_turns (gather_fits w.done.unit.turns a w.done.says.moves.may)) (λ reason. tt)
        (gather_says o.group a ph) w.done.says.moves.named w.done.says.moves.known (b.agrees due.1)))
    comes_at ats.Compare ask a ph b units at asked says_it phase =
        let is : asks.ComparePiece o.group ≡ ask = some_same (asks.ComparePiece o.group) ask asked in
        let it : SaysOpen o.group events.Compare p q a = subst (λ (x : Ask). Says x p q a) (sym is) says_it in
        let here : ph ≡ phase_of_group q.units.items (Some o.group) = subst (λ (x : Ask). ph ≡ phase_of_group q.units.items (group_asked x)) (sym is) phase in
        let due : (stands o.group o.unit (past_in p) ≡ false) × (o.stop ≡ None) = b.due (ap is_due at) in
        subst (λ (x : Ask). Comes plan turns p q o ats.Compare x a ph) is
        (asked_open events.Compare ats.Compare (asks.ComparePiece o.group) a ph it (λ n. refl) (λ x may. may) (b.at_work (ap is_open_at at)) due.0
        (λ w. compared_by a ph w w.done.says.says.0 w.done.says.says.1 w.done.says.says.2 (phase_is events.Compare a w ph here) (b.agrees due.1)))
    comes_at ats.Reserve ask a ph b units at asked says_it phase =
        let is : asks.ReservePiece o.group ≡ ask = some_same (asks.ReservePiece o.group) ask asked in
        let it : SaysOpen o.group events.Reserve p q a = subst (λ (x : Ask). Says x p q a) (sym is) says_it in
        let due : (stands o.group o.unit (past_in p) ≡ false) × (o.stop ≡ None) = b.due (ap is_due at) in
        subst (λ (x : Ask). Comes plan turns p q o ats.Reserve x a ph) is
        (asked_open events.Reserve ats.Reserve (asks.ReservePiece o.group) a ph it (λ n. refl) (λ x may. may) (b.at_work (ap is_open_at at)) due.0
        (λ w. reserved_by a ph w w.done.says.says.0 w.done.says.says.1 w.done.says.says.2 (b.agrees due.1)))
    comes_at ats.Stage ask a ph b units at asked says_it phase =
        let is : asks.StagePiece o.group ≡ ask = some_same (asks.StagePiece o.group) ask asked in
        let it : SaysOpen o.group events.Stage p q a = subst (λ (x : Ask). Says x p q a) (sym is) says_it in
        let due : (stands o.group o.unit (past_in p) ≡ false) × (o.stop ≡ None) = b.due (ap is_due at) in
        subst (λ (x : Ask). Comes plan turns p q o ats.Stage x a ph) is
        (asked_open events.Stage ats.Stage (asks.StagePiece o.group) a ph it (λ n. refl) (λ x may. may) (b.at_work (ap is_open_at at)) due.0
        (λ w. staged_comes a ph w w.done.says.says (b.agrees due.1)))
    comes_at ats.Switch ask a ph b units at asked says_it phase =
        let is : asks.Switch o.group ≡ ask = some_same (asks.Switch o.group) ask asked in
        let it : SaysOpen o.group events.Switch p q a = subst (λ (x : Ask). Says x p q a) (sym is) says_it in
        let due : (stands o.group o.unit (past_in p) ≡ false) × (o.stop ≡ None) = b.due (ap is_due at) in
        subst (λ (x : Ask). Comes plan turns p q o ats.Switch x a ph) is
        (asked_open events.Switch ats.Switch (asks.Switch o.group) a ph it (λ n. refl) (λ x may. may) (b.at_work (ap is_open_at at)) due.0
        (λ w. switched_by a ph w w.done.says.says.0 at w.done.says.says.1 w.done.says.says.2 (b.agrees due.1)))
    comes_at ats.Reap ask a ph b units at asked says_it phase =
        let is : asks.ReapPiece o.group ≡ ask = some_same (asks.ReapPiece o.group) ask asked in
        let it : SaysOpen o.group events.Reap p q a = subst (λ (x : Ask). Says x p q a) (sym is) says_it in
        subst (λ (x : Ask). Comes plan turns p q o ats.Reap x a ph) is
        (asked_late ats.Reap a ph it (λ x may. may) (reap_silent o.group a ph) (λ f may. may) (b.idle ats.Reap at refl a ph) b.agrees)
    comes_at ats.ReapOnce ask a ph b units at asked says_it phase =
        let is : asks.ReapPiece o.group ≡ ask = some_same (asks.ReapPiece o.group) ask asked in
        let it : SaysOpen o.group events.Reap p q a = subst (λ (x : Ask). Says x p q a) (sym is) says_it in
        subst (λ (x : Ask). Comes plan turns p q o ats.ReapOnce x a ph) is
        (asked_late ats.ReapOnce a ph it (λ x may. may) (once_silent o.group a ph) (λ f may. may) (b.idle ats.ReapOnce at refl a ph) b.agrees)
    comes_at ats.Reopen ask a ph b units at asked says_it phase =
        let is : asks.Reopen o.group ≡ ask = some_same (asks.Reopen o.group) ask asked in
        let it : SaysReopened o.group p q a = subst (λ (x : Ask). Says x p q a) (sym is) says_it in
        subst (λ (x : Ask). Comes plan turns p q o ats.Reopen x a ph) is (asked_reopen a ph it (b.idle ats.Reopen at refl a ph) b.agrees units)
    comes_at ats.Over ask a ph b units at asked says_it phase = absurd (none_some ask asked)
