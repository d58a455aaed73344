-- The course of a session by its answers and its journal alone.
use Rattle.std.proofs.Common.{◌≡◌, ◌<◌, ◌≤◌, ℕ, zero, suc, ◌+◌, Bool, true, false, List, [], ◌∷◌, ◌++◌, map, Option, Some, None, refl, sym, ◌∙◌, ap, subst, append-nil, inl, inr, arith}
use Rattle.std.specs.Prelude.{◌==◌, ◌&&◌, nat_le, if◌then◌else◌}
use Rattle.core_calls.specs.declared.answers.Answer.{Answer}
use Rattle.core_calls.specs.declared.answers.Answer.TheVariants as answers
use Rattle.core_calls.specs.declared.answers.Phase.{Phase}
use Rattle.core_calls.specs.declared.answers.ScrubFault.{ScrubFault}
use Rattle.core_calls.specs.declared.answers.ScrubFault.TheVariants as faults
use Rattle.core_calls.specs.declared.asks.Ask.{Ask}
use Rattle.fs_state.specs.Faults.{kind_of_fault}
use Rattle.fs_state.specs.Lists.{numbers}
use Rattle.fs_state.specs.Records.{unit_of}
use Rattle.fs_state.specs.Session.{AreOf, Place, VerdictsFit, is_at, is_cut, is_passed, is_refused, is_same_unit, stands, unit_order, verdict_places}
use Rattle.fs_state.specs.declared.plan.Plan.{Plan}
use Rattle.fs_model.specs.declared.entry.Entry.{Entry}
use Rattle.fs_model.specs.declared.entry.Entry.TheVariants as entries
use Rattle.fs_model.specs.declared.unit.Unit.{Unit as ScrubUnit}
use Rattle.fs_model.specs.declared.unit.Unit.TheVariants as units
use Rattle.scrub_order.proofs.Begin.{begins}
use Rattle.scrub_order.proofs.Places.{fit_joined, fit_silent, places_joined}
use Rattle.scrub_order.proofs.Rows.{goes_on}
use Rattle.scrub_order.proofs.Runs.{ends}
use Rattle.scrub_order.specs.Comes.{MayAnswer, MayCome, OpenUnit, Says, Sight, asked_unit, says, turned}
use Rattle.scrub_order.specs.Course.{CourseBegins, CourseEnds, CourseGoesOn, CourseIsFresh, CourseIsSession, CourseStays, CourseStops, IsAtWork, SaysAt, StaysAt, WasAtWork, is_open_at}
use Rattle.scrub_order.specs.Laws.{Asked, Follows, IsSession, Silent, StandsAt, Working, behind, left_by, lists_in, rest_behind}
use Rattle.scrub_order.specs.Orders.{ask_at, moved_by, next_of, opened_by, took_in}
use Rattle.scrub_order.specs.Table.{found}
use Rattle.scrub_order.specs.declared.at.At.{At}
use Rattle.scrub_order.specs.declared.at.At.TheVariants as ats
use Rattle.scrub_order.specs.declared.at.Move.{Move}
use Rattle.scrub_order.specs.declared.at.Move.TheVariants as moves
use Rattle.scrub_order.specs.declared.order.Order.{Order}

no_stop : {A : Type 0} (f : A) → Some f ≡ None → ⊥
no_stop f h = grind arith

never : true ≡ false → ⊥
never e = grind arith

not_true : false ≡ true → ⊥
not_true e = grind arith

-- ---- it begins and goes on

pub course_begins : CourseBegins
course_begins n plan turns = record { left = unit_order n; sight = λ g. None; follows = begins n plan turns [] (λ g. None) (λ g. refl) }

-- what a core would keep behind an answer that keeps just what it must
abbrev sight_after : Sight → ℕ → Ask → Answer → Phase → Sight
sight_after s g ask answer p h = if h == g then turned ask answer p (s h) else s h

own_after : (s : Sight) (g : ℕ) (ask : Ask) (answer : Answer) (p : Phase) → sight_after s g ask answer p g ≡ turned ask answer p (s g)
own_after s g ask answer p = ap (λ b. if b then turned ask answer p (s g) else s g) is_same
  where
    is_same : (g == g) ≡ true
    is_same = grind arith

other_after : (s : Sight) (g : ℕ) (ask : Ask) (answer : Answer) (p : Phase) (h : ℕ) → (h == g) ≡ false → sight_after s g ask answer p h ≡ s h
other_after s g ask answer p h e = ap (λ b. if b then turned ask answer p (s h) else s h) e

-- the unit that an event speaks of is the order's, with its plan and turns
abbrev IsOrders : Plan → ℕ → Order → Option OpenUnit → Type 0
IsOrders plan turns o None = ⊥
IsOrders plan turns o (Some w) = (w.unit ≡ o.unit) × (w.plan ≡ plan) × (w.turns ≡ turns)

works_on : (plan : Plan) (turns : ℕ) (at : At) (o : Order) (s : Sight) → Working plan turns at o s → IsOrders plan turns o (s o.group)
works_on plan turns at o s w = subst (λ x. IsOrders plan turns o x) (sym w.here) (w.of, w.as_planned, w.as_turns)

module _ (n : ℕ) (plan : Plan) (turns : ℕ) where
  speaks_of : (at : At) (o : Order) (left : List Place) (s : Sight) → o.plan ≡ plan → o.turns ≡ turns → StandsAt plan turns n at o left s
      → Asked (ask_at at o) (λ ask. IsOrders plan turns o (asked_unit ask (s o.group)))
  speaks_of ats.Over o left s pl tu st = tt
  speaks_of ats.Start o left s pl tu st = (refl, pl, tu)
  speaks_of ats.Advance o left s pl tu st = works_on plan turns ats.Advance o s st.0
  speaks_of ats.Scan o left s pl tu st = works_on plan turns ats.Scan o s st.0
  speaks_of ats.Close o left s pl tu st = works_on plan turns ats.Close o s st.0
  speaks_of ats.Gather o left s pl tu st = works_on plan turns ats.Gather o s st.0
  speaks_of ats.Compare o left s pl tu st = works_on plan turns ats.Compare o s st.0
  speaks_of ats.Reserve o left s pl tu st = works_on plan turns ats.Reserve o s st.0
  speaks_of ats.Stage o left s pl tu st = works_on plan turns ats.Stage o s st.0
  speaks_of ats.Switch o left s pl tu st = works_on plan turns ats.Switch o s st.0
  speaks_of ats.Reap o left s pl tu st = works_on plan turns ats.Reap o s st.0
  speaks_of ats.ReapOnce o left s pl tu st = works_on plan turns ats.ReapOnce o s st.0
  speaks_of ats.Reopen o left s pl tu st = works_on plan turns ats.Reopen o s st.0

  said : (past es : List Entry) (o : Order) (x : Option OpenUnit) → IsOrders plan turns o x → (b : Bool) → SaysAt n plan turns past o b es → Says n past b o.group x es
  said past es o x i false s = s
  said past es o None i true s = absurd i
  said past es o (Some w) i true s = (
    s.0 ∙ ap (λ u. (o.group, u) ∷ []) (sym i.0),
    subst (λ k. VerdictsFit k w.turns n past es) (sym i.1) (subst (λ k. VerdictsFit plan k n past es) (sym i.2) s.1),
  )

pub course_goes_on : CourseGoesOn
course_goes_on n plan turns mine es o ask answer phase c e ok said_at =
    let after : Sight = sight_after c.sight o.group ask answer phase in
    let of : IsOrders plan turns o (asked_unit ask (c.sight o.group)) =
    subst (λ x. Asked x (λ a. IsOrders plan turns o (asked_unit a (c.sight o.group)))) e (speaks_of n plan turns o.at o c.left c.sight c.follows.of_plan c.follows.of_turns c.follows.stands) in
    let may : MayCome n (behind [] mine) o.at o.group ask c.sight after answer phase es =
    record {
      answers = λ h. ok;
      own = own_after c.sight o.group ask answer phase;
      others = λ h off. other_after c.sight o.group ask answer phase h off;
      verdicts = said n plan turns (behind [] mine) es o (asked_unit ask (c.sight o.group)) of (says ask answer phase) said_at;
    } in
    let on : MayAnswer o.at answer phase × ((rest : List Place) × Follows n plan turns [] (mine ++ es) rest (took_in o answer phase) after) =
    subst
    (λ x. Asked x (λ a. (s' : Sight) (answer : Answer) (phase : Phase) (es : List Entry) → MayCome n (behind [] mine) o.at o.group a c.sight s' answer phase es
    → MayAnswer o.at answer phase × ((rest : List Place) × Follows n plan turns [] (mine ++ es) rest (took_in o answer phase) s')))
    e (goes_on n plan turns [] mine c.left o c.sight c.follows) after answer phase es may
    in record { left = on.1.0; sight = after; follows = on.1.1 }

-- ---- it ends or stops

pub course_ends : CourseEnds
course_ends n plan turns mine o c e =
    let s : IsSession n plan turns [] mine o c.sight = subst (λ x. Silent x (IsSession n plan turns [] mine o c.sight)) e (ends n plan turns [] mine c.left o c.sight c.follows)
    in record { front = s.front; whole = s.whole; verdicts = s.verdicts }

pub course_stops : CourseStops
course_stops n plan turns mine es o fault c quiet =
    let same : verdict_places (mine ++ es) ≡ verdict_places mine = places_joined mine es ∙ ap (λ (ps : List Place). verdict_places mine ++ ps) quiet ∙ append-nil (verdict_places mine)
    in record {
      front = (c.left, c.follows.places ∙ ap (λ (ps : List Place). ps ++ c.left) (sym same));
      whole = λ h. absurd (no_stop fault h);
      verdicts = fit_joined plan turns n [] mine es c.follows.verdicts (fit_silent plan turns n (behind [] mine) es quiet);
    }

-- ---- no unit comes twice

-- how often a list has a place
abbrev times : ℕ → ScrubUnit → List Place → ℕ
times g u [] = 0
times g u (p ∷ ps) = (if is_at g u p.0 p.1 then 1 else 0) + times g u ps

times_joined : (g : ℕ) (u : ScrubUnit) (ps qs : List Place) → times g u (ps ++ qs) ≡ times g u ps + times g u qs
times_joined g u [] qs = omega arith
times_joined g u (p ∷ ps) qs = omega (arith, times_joined g u ps qs)

-- places of one kind of unit, in groups from a on
abbrev kind_in : ScrubUnit → ℕ → ℕ → List Place
kind_in v a m = map (λ h. (h, v)) (numbers a m)

both_no : (b c : Bool) → c ≡ false → (b && c) ≡ false
both_no true c e = e
both_no false c e = refl

first_no : (b c : Bool) → b ≡ false → (b && c) ≡ false
first_no true c e = absurd (never e)
first_no false c e = refl

is_below : (g a : ℕ) → g < a → (a == g) ≡ false
is_below g a lt = grind arith

goes_above : (g a : ℕ) → g < a → g < a + 1
goes_above g a lt = omega arith

is_same_number : (a g : ℕ) → (a == g) ≡ true → g < a + 1
is_same_number a g e = grind arith

counts_none : (b : Bool) (k : ℕ) → b ≡ false → k ≡ 0 → (if b then 1 else 0) + k ≡ 0
counts_none true k e z = absurd (never e)
counts_none false k e z = omega (arith, z)

counts_once : (b : Bool) (k : ℕ) → (b ≡ true → k ≡ 0) → k ≤ 1 → (if b then 1 else 0) + k ≤ 1
counts_once true k z le = omega (arith, z refl)
counts_once false k z le = omega (arith, le)

other_kind : (g : ℕ) (u v : ScrubUnit) → is_same_unit u v ≡ false → (a m : ℕ) → times g u (kind_in v a m) ≡ 0
other_kind g u v off a zero = refl
other_kind g u v off a (suc m) = counts_none (is_at g u a v) (times g u (kind_in v (a + 1) m)) (both_no (a == g) (is_same_unit u v) off) (other_kind g u v off (a + 1) m)

kind_above : (g : ℕ) (u v : ScrubUnit) (a m : ℕ) → g < a → times g u (kind_in v a m) ≡ 0
kind_above g u v a zero lt = refl
kind_above g u v a (suc m) lt =
    counts_none (is_at g u a v) (times g u (kind_in v (a + 1) m)) (first_no (a == g) (is_same_unit u v) (is_below g a lt)) (kind_above g u v (a + 1) m (goes_above g a lt))

of_group : (b c : Bool) → (b && c) ≡ true → b ≡ true
of_group true c e = refl
of_group false c e = absurd (not_true e)

kind_once : (g : ℕ) (u v : ScrubUnit) (a m : ℕ) → times g u (kind_in v a m) ≤ 1
kind_once g u v a zero = omega arith
kind_once g u v a (suc m) =
    counts_once (is_at g u a v) (times g u (kind_in v (a + 1) m))
    (λ e. kind_above g u v (a + 1) m (is_same_number a g (of_group (a == g) (is_same_unit u v) e)))
    (kind_once g u v (a + 1) m)

-- free space and reference counts, group by group, are as often there as each of the two kinds alone
lists_as : (g : ℕ) (u : ScrubUnit) (a m : ℕ) → times g u (lists_in a m) ≡ times g u (kind_in units.Free a m) + times g u (kind_in units.Refc a m)
lists_as g u a zero = refl
lists_as g u a (suc m) = omega (arith, lists_as g u (a + 1) m)

order_as : (g : ℕ) (u : ScrubUnit) (n : ℕ)
    → times g u (unit_order n) ≡ times g u (kind_in units.Inode 0 n) + times g u (kind_in units.Rmap 0 n) + (times g u (kind_in units.Free 0 n) + times g u (kind_in units.Refc 0 n))
unfolding unit_order
order_as g u n =
    let a : times g u ((kind_in units.Inode 0 n ++ kind_in units.Rmap 0 n) ++ lists_in 0 n) ≡ times g u (kind_in units.Inode 0 n ++ kind_in units.Rmap 0 n) + times g u (lists_in 0 n) =
    times_joined g u (kind_in units.Inode 0 n ++ kind_in units.Rmap 0 n) (lists_in 0 n) in
    let b : times g u (kind_in units.Inode 0 n ++ kind_in units.Rmap 0 n) ≡ times g u (kind_in units.Inode 0 n) + times g u (kind_in units.Rmap 0 n) =
    times_joined g u (kind_in units.Inode 0 n) (kind_in units.Rmap 0 n) in
    let c : times g u (lists_in 0 n) ≡ times g u (kind_in units.Free 0 n) + times g u (kind_in units.Refc 0 n) = lists_as g u 0 n in
    a ∙ ap (λ k. k + times g u (lists_in 0 n)) b ∙ ap (λ k. times g u (kind_in units.Inode 0 n) + times g u (kind_in units.Rmap 0 n) + k) c

order_once : (g : ℕ) (u : ScrubUnit) (n : ℕ) → times g u (unit_order n) ≤ 1
order_once g units.Inode n = omega (arith, order_as g units.Inode n, kind_once g units.Inode units.Inode 0 n, other_kind g units.Inode units.Rmap refl 0 n, other_kind g units.Inode units.Free refl 0 n, other_kind g units.Inode units.Refc refl 0 n)
order_once g units.Rmap n = omega (arith, order_as g units.Rmap n, other_kind g units.Rmap units.Inode refl 0 n, kind_once g units.Rmap units.Rmap 0 n, other_kind g units.Rmap units.Free refl 0 n, other_kind g units.Rmap units.Refc refl 0 n)
order_once g units.Free n = omega (arith, order_as g units.Free n, other_kind g units.Free units.Inode refl 0 n, other_kind g units.Free units.Rmap refl 0 n, kind_once g units.Free units.Free 0 n, other_kind g units.Free units.Refc refl 0 n)
order_once g units.Refc n = omega (arith, order_as g units.Refc n, other_kind g units.Refc units.Inode refl 0 n, other_kind g units.Refc units.Rmap refl 0 n, other_kind g units.Refc units.Free refl 0 n, kind_once g units.Refc units.Refc 0 n)

-- ---- a unit that is due, or at work, has no verdict yet

is_own : (g : ℕ) (u : ScrubUnit) → is_at g u g u ≡ true
is_own g u = by (g == g) is_same u
  where
    is_same : (g == g) ≡ true
    is_same = grind arith

    by : (b : Bool) → b ≡ true → (v : ScrubUnit) → (b && is_same_unit v v) ≡ true
    by true e units.Inode = refl
    by true e units.Rmap = refl
    by true e units.Free = refl
    by true e units.Refc = refl
    by false e v = absurd (not_true e)

none_before : (x y k : ℕ) (b : Bool) → b ≡ true → x + ((if b then 1 else 0) + y) ≡ k → k ≤ 1 → x ≡ 0
none_before x y k true e is le = omega (arith, is, le)
none_before x y k false e is le = absurd (not_true e)

-- where a list without doubles has a place behind its front, the front hasn't
not_in_front : (n g : ℕ) (u : ScrubUnit) (front rest : List Place) → unit_order n ≡ front ++ (g, u) ∷ rest → times g u front ≡ 0
not_in_front n g u front rest e =
    none_before (times g u front) (times g u rest) (times g u (unit_order n)) (is_at g u g u) (is_own g u) (sym (times_joined g u front ((g, u) ∷ rest)) ∙ ap (λ (ps : List Place). times g u ps) (sym e)) (order_once g u n)

none_first : (b : Bool) (k : ℕ) → (if b then 1 else 0) + k ≡ 0 → b ≡ false
none_first true k e = absurd (one_more_zero k e)
  where
    one_more_zero : (j : ℕ) → 1 + j ≡ 0 → ⊥
    one_more_zero j h = omega (arith, h)
none_first false k e = refl

none_behind : (b : Bool) (k : ℕ) → (if b then 1 else 0) + k ≡ 0 → k ≡ 0
none_behind true k e = omega (arith, e)
none_behind false k e = omega (arith, e)

falls_by : (b c : Bool) → c ≡ false → (if b then false else c) ≡ false
falls_by true c e = refl
falls_by false c e = e

-- entries without a verdict of the unit don't let it stand
not_standing : (g : ℕ) (u : ScrubUnit) (past es : List Entry) → times g u (verdict_places es) ≡ 0 → stands g u past ≡ false → stands g u (behind past es) ≡ false
unfolding stands verdict_places
not_standing g u past [] none off = off
not_standing g u past (entries.Verdict h v verdict ∷ es) none off =
    not_standing g u (entries.Verdict h v verdict ∷ past) es (none_behind (is_at g u h v) (times g u (verdict_places es)) none)
    (ap (λ b. if b then is_passed verdict else stands g u past) (none_first (is_at g u h v) (times g u (verdict_places es)) none) ∙ off)
not_standing g u past (entries.Fault h v fault ∷ es) none off =
    not_standing g u (entries.Fault h v fault ∷ past) es none (falls_by (is_at g u h (unit_of (kind_of_fault fault))) (stands g u past) off)
not_standing g u past (entries.Marked h kind cause ∷ es) none off =
    not_standing g u (entries.Marked h kind cause ∷ past) es none (falls_by (is_at g u h (unit_of kind)) (stands g u past) off)
not_standing g u past (e ∷ es) none off = not_standing g u (e ∷ past) es none off

none_stands : (g : ℕ) (u : ScrubUnit) → stands g u [] ≡ false
unfolding stands
none_stands g u = refl

module _ (n : ℕ) (plan : Plan) (turns : ℕ) (o : Order) (left : List Place) (s : Sight) where
  are_left : (at : At) → StandsAt plan turns n at o left s → Asked (ask_at at o) (λ ask. left ≡ left_by o.is_judged o.unit n o.group)
  are_left ats.Over st = tt
  are_left ats.Start st = st.2
  are_left ats.Advance st = st.2
  are_left ats.Scan st = st.2
  are_left ats.Close st = st.2
  are_left ats.Gather st = st.2
  are_left ats.Compare st = st.2
  are_left ats.Reserve st = st.2
  are_left ats.Stage st = st.2
  are_left ats.Switch st = st.2
  are_left ats.Reap st = st.2
  are_left ats.ReapOnce st = st.2
  are_left ats.Reopen st = st.2

pub course_is_fresh : CourseIsFresh
course_is_fresh n plan turns mine o ask c e un =
    let l : c.left ≡ left_by o.is_judged o.unit n o.group = subst (λ x. Asked x (λ a. c.left ≡ left_by o.is_judged o.unit n o.group)) e (are_left n plan turns o c.left c.sight o.at c.follows.stands) in
    let f : c.left ≡ (o.group, o.unit) ∷ rest_behind o.unit n o.group = l ∙ ap (λ j. left_by j o.unit n o.group) un in
    let p : unit_order n ≡ verdict_places mine ++ (o.group, o.unit) ∷ rest_behind o.unit n o.group = c.follows.places ∙ ap (λ (ps : List Place). verdict_places mine ++ ps) f
    in not_standing o.group o.unit [] mine (not_in_front n o.group o.unit (verdict_places mine) (rest_behind o.unit n o.group) p) (none_stands o.group o.unit)

-- ---- while it works on a unit it stays with it

-- the next unit is not at work yet
not_yet : (b : Bool) (u : ScrubUnit) (o : Order) → is_open_at (next_of b u o).at ≡ true → ⊥
not_yet true units.Inode o h = not_true h
not_yet false units.Inode o h = not_true h
not_yet true units.Rmap o h = not_true h
not_yet false units.Rmap o h = not_true h
not_yet b units.Free o h = not_true h
not_yet true units.Refc o h = not_true h
not_yet false units.Refc o h = not_true h

not_again : (t : Option ScrubFault) (o : Order) → is_open_at (opened_by t o).at ≡ true → ⊥
not_again (Some f) o h = not_true h
not_again None o h = not_yet (nat_le o.groups (o.group + 1)) o.unit o h

stays_by : (m : Move) (o : Order) → IsAtWork (moved_by m o) → StaysAt o (moved_by m o)
stays_by (moves.To a) o w = record { group = refl; unit = refl }
stays_by (moves.Judged a) o w = record { group = refl; unit = refl }
stays_by moves.Passed o w = absurd (not_yet (nat_le o.groups (o.group + 1)) o.unit (record o { is_judged = true }) w)
stays_by (moves.Stopped f) o w = record { group = refl; unit = refl }
stays_by moves.Reopened o w = absurd (not_again o.stop o w)

-- of what is due only `Done` opens it
opens : (o : Order) (answer : Answer) (p : Phase) → MayAnswer ats.Start answer p → IsAtWork (moved_by (found o.unit ats.Start answer p) (record o { at = ats.Start })) → answer ≡ answers.Done
opens o answers.Done p ok w = refl
opens o (answers.Scrub (faults.Skipped h u)) p ok w = absurd (not_yet (nat_le o.groups (o.group + 1)) o.unit (record o { is_judged = true; at = ats.Start }) w)
opens o (answers.Scrub faults.JournalFull) p ok w = absurd (not_true w)
opens o (answers.Scrub (faults.Shut k)) p ok w = absurd (not_true w)
opens o (answers.Scrub faults.Memory) p ok w = absurd (not_true w)
opens o answer p ok w = absurd ok

-- and after its verdict none is at work
no_reap : (o : Order) (answer : Answer) (p : Phase) → MayAnswer ats.Reap answer p → IsAtWork (moved_by (found o.unit ats.Reap answer p) (record o { at = ats.Reap })) → ⊥
no_reap o (answers.Scrub faults.JournalFull) p ok w = not_true w
no_reap o (answers.Scrub (faults.Shut k)) p ok w = not_true w
no_reap o (answers.Scrub faults.Memory) p ok w = not_true w
no_reap o (answers.Part false) p ok w = not_true w
no_reap o (answers.Part true) p ok w = not_true w
no_reap o answer p ok w = ok

no_reap_once : (o : Order) (answer : Answer) (p : Phase) → MayAnswer ats.ReapOnce answer p → IsAtWork (moved_by (found o.unit ats.ReapOnce answer p) (record o { at = ats.ReapOnce })) → ⊥
no_reap_once o (answers.Scrub faults.JournalFull) p ok w = not_true w
no_reap_once o (answers.Scrub (faults.Shut k)) p ok w = not_true w
no_reap_once o (answers.Scrub faults.Memory) p ok w = not_true w
no_reap_once o (answers.Part false) p ok w = not_true w
no_reap_once o (answers.Part true) p ok w = not_true w
no_reap_once o answer p ok w = ok

no_reopen : (o : Order) (answer : Answer) (p : Phase) → MayAnswer ats.Reopen answer p → IsAtWork (moved_by (found o.unit ats.Reopen answer p) (record o { at = ats.Reopen })) → ⊥
no_reopen o answers.Done p ok w = not_again o.stop (record o { at = ats.Reopen }) w
no_reopen o (answers.Scrub (faults.Shut k)) p ok w = not_true w
no_reopen o answer p ok w = ok

module _ (o : Order) (answer : Answer) (p : Phase) where
  abbrev Stays : At → Type 0
  Stays at = MayAnswer at answer p → IsAtWork (moved_by (found o.unit at answer p) (record o { at = at }))
      → WasAtWork (record o { at = at }) answer × StaysAt (record o { at = at }) (moved_by (found o.unit at answer p) (record o { at = at }))

  at_work : (at : At) → is_open_at at ≡ true → Stays at
  at_work at h ok w = (inl h, stays_by (found o.unit at answer p) (record o { at = at }) w)

  stays_at : (at : At) → Stays at
  stays_at ats.Over ok w = absurd (none_over answer ok)
    where
      none_over : (a : Answer) → MayAnswer ats.Over a p → ⊥
      none_over (answers.Scrub f) h = h
      none_over (answers.Part b) h = h
      none_over a h = h
  stays_at ats.Start ok w = (inr (refl, opens o answer p ok w), stays_by (found o.unit ats.Start answer p) (record o { at = ats.Start }) w)
  stays_at ats.Advance ok w = at_work ats.Advance refl ok w
  stays_at ats.Scan ok w = at_work ats.Scan refl ok w
  stays_at ats.Close ok w = at_work ats.Close refl ok w
  stays_at ats.Gather ok w = at_work ats.Gather refl ok w
  stays_at ats.Compare ok w = at_work ats.Compare refl ok w
  stays_at ats.Reserve ok w = at_work ats.Reserve refl ok w
  stays_at ats.Stage ok w = at_work ats.Stage refl ok w
  stays_at ats.Switch ok w = at_work ats.Switch refl ok w
  stays_at ats.Reap ok w = absurd (no_reap o answer p ok w)
  stays_at ats.ReapOnce ok w = absurd (no_reap_once o answer p ok w)
  stays_at ats.Reopen ok w = absurd (no_reopen o answer p ok w)

pub course_stays : CourseStays
course_stays o answer phase ok w = stays_at o answer phase o.at ok w

-- ---- its journal

pub course_is_session : CourseIsSession
course_is_session n plan turns status stop mine s r h = record { order_kept = by (is_cut status) refl; verdicts = s.verdicts }
  where
    begun_one : (b : Bool) → b ≡ false → (order places : List Place) → places ≡ order → AreOf false b order places
    begun_one true e order places p = absurd (never e)
    begun_one false e order places p = p

    by : (b : Bool) → is_cut status ≡ b → AreOf b (is_refused status) (unit_order n) (verdict_places mine)
    by true e = s.front
    by false e = begun_one (is_refused status) r (unit_order n) (verdict_places mine) (s.whole (h e))
