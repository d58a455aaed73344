-- The session in the journal of a repair: what was found, and what is told of it.
use Rattle.std.proofs.Common.{◌≡◌, ◌≤◌, ℕ, List, [], ◌∷◌, ◌++◌, Bool, true, false, cond, Option, None, refl, sym, ◌∙◌, ap, subst, append_assoc, append-nil, arith}
use Rattle.std.specs.List.{list_all, list_any}
use Rattle.blk_device.specs.Taken.{IsFront}
use Rattle.fs_model.specs.declared.entry.Entry.{Entry}
use Rattle.fs_model.specs.declared.entry.Entry.TheVariants as entries
use Rattle.fs_state.specs.Session.{AreOf, Place, VerdictsFit, is_cut, is_refused, unit_order, verdict_places}
use Rattle.fs_state.specs.declared.plan.Plan.{Plan}
use Rattle.core_calls.specs.declared.answers.ScrubFault.{ScrubFault}
use Rattle.quiet_repair.specs.Ends.{HasOrder}
use Rattle.xscrub.specs.Outcome.{code_of, is_calm, is_given_up, repaired_status}
use Rattle.xscrub.specs.Units.{HasSession}
use Rattle.xscrub.specs.declared.ending.Status.TheVariants as statuses

-- ---- a front of a journal

places_joined : (es more : List Entry) → verdict_places (es ++ more) ≡ verdict_places es ++ verdict_places more
unfolding verdict_places
places_joined [] more = refl
places_joined (entries.Verdict g u v ∷ es) more = ap (λ (ps : List Place). (g, u) ∷ ps) (places_joined es more)
places_joined (e ∷ es) more = places_joined es more

front_fits : (plan : Plan) (turns n : ℕ) (past es more : List Entry) → VerdictsFit plan turns n past (es ++ more) → VerdictsFit plan turns n past es
front_fits plan turns n past [] more fit = tt
front_fits plan turns n past (e ∷ es) more fit = (fit.0, front_fits plan turns n (e ∷ past) es more fit.1)

-- whether a session was cut short or not, its places are a front of the order
front_of : (cut refused : Bool) (order places : List Place) → AreOf cut refused order places → (rest : List Place) × (order ≡ places ++ rest)
front_of true refused order places are = are
front_of false true order places are = (order, ap (λ (ps : List Place). ps ++ order) (sym are))
front_of false false order places are = ([], sym are ∙ no_more places)
  where
    no_more : (ps : List Place) → ps ≡ ps ++ []
    no_more [] = refl
    no_more (p ∷ ps) = ap (λ (qs : List Place). p ∷ qs) (no_more ps)

cut_of : (cut refused : Bool) (order places : List Place) → cut ≡ true → (rest : List Place) × (order ≡ places ++ rest) → AreOf cut refused order places
cut_of true refused order places is front = front
cut_of false refused order places is front = absurd (never is)
  where
    never : false ≡ true → ⊥
    never e = cc

-- a front of it is one at each status at which it may be cut short
pub cut_session : (plan : Plan) (turns s t : ℕ) (js whole : List Entry) → is_cut t ≡ true → IsFront js whole → HasSession plan turns s whole → HasSession plan turns t js
cut_session plan turns s t js whole is front has =
    let places : List Place = verdict_places js in
    let behind = front_of (is_cut s) (is_refused s) (unit_order has.groups) (verdict_places whole) has.session.order_kept in
    let joined : verdict_places whole ≡ places ++ verdict_places front.0 = ap verdict_places front.1 ∙ places_joined js front.0 in
    let order : unit_order has.groups ≡ places ++ (verdict_places front.0 ++ behind.0) = behind.1 ∙ (ap (λ (ps : List Place). ps ++ behind.0) joined ∙ append_assoc places (verdict_places front.0) behind.0) in
    record {
      groups = has.groups;
      some = has.some;
      session = record {
        order_kept = cut_of (is_cut t) (is_refused t) (unit_order has.groups) places is (verdict_places front.0 ++ behind.0, order);
        verdicts = front_fits plan turns has.groups [] js front.0 (subst (VerdictsFit plan turns has.groups []) front.1 has.session.verdicts);
      };
    }

-- ---- what was found

-- no unit was begun
pub none_begun : (plan : Plan) (turns : ℕ) → HasSession plan turns 4 []
unfolding verdict_places
none_begun plan turns = record { groups = 1; some = omega arith; session = record { order_kept = refl; verdicts = tt } }

pub none_cut : (plan : Plan) (turns t : ℕ) (js : List Entry) → is_cut t ≡ true → js ≡ [] → HasSession plan turns t js
none_cut plan turns t js is none = cut_session plan turns 4 t js [] is ([], sym (ap (λ (es : List Entry). es ++ []) none)) (none_begun plan turns)

-- a session that stopped
pub stopped_session : (plan : Plan) (turns t : ℕ) (stop : Option ScrubFault) (js : List Entry) → is_cut t ≡ true → HasOrder plan turns stop js → HasSession plan turns t js
stopped_session plan turns t stop js is has = record {
  groups = has.groups;
  some = has.some;
  session = record {
    order_kept = cut_of (is_cut t) (is_refused t) (unit_order has.groups) (verdict_places js) is has.order.front;
    verdicts = has.order.verdicts;
  };
}

-- one that came to its end, at the status of its journal
pub whole_session : (plan : Plan) (turns : ℕ) (sick : Bool) (js : List Entry) → HasOrder plan turns None js → HasSession plan turns (code_of (repaired_status sick js)) js
whole_session plan turns sick js has = by_sick sick
  where
    at : (s : ℕ) → AreOf (is_cut s) (is_refused s) (unit_order has.groups) (verdict_places js) → HasSession plan turns s js
    at s kept = record { groups = has.groups; some = has.some; session = record { order_kept = kept; verdicts = has.order.verdicts } }

    by_given_up : (b : Bool) → HasSession plan turns (code_of (cond b statuses.GaveUp statuses.Faulty)) js
    by_given_up true = at 6 (has.order.whole refl)
    by_given_up false = at 1 (has.order.whole refl)

    by_calm : (a b : Bool) → HasSession plan turns (code_of (cond a statuses.Clean (cond b statuses.GaveUp statuses.Faulty))) js
    by_calm true b = at 0 (has.order.whole refl)
    by_calm false b = by_given_up b

    by_sick : (b : Bool) → HasSession plan turns (code_of (repaired_status b js)) js
    by_sick true = by_given_up (list_any is_given_up js)
    by_sick false = by_calm (list_all is_calm js) (list_any is_given_up js)

-- ---- a check that comes behind it

-- a session that came to its end
ended_order : (plan : Plan) (turns n : ℕ) (js : List Entry) → 1 ≤ n → verdict_places js ≡ unit_order n → VerdictsFit plan turns n [] js → HasOrder plan turns None js
ended_order plan turns n js some are fit = record {
  groups = n;
  some = some;
  order = record { front = front_of false false (unit_order n) (verdict_places js) are; whole = λ _. are; verdicts = fit };
}

repaired_order : (plan : Plan) (turns : ℕ) (js : List Entry) → HasSession plan turns (code_of (repaired_status false js)) js → HasOrder plan turns None js
repaired_order plan turns js = by_tests (list_all is_calm js) (list_any is_given_up js)
  where
    by_tests : (a b : Bool) → HasSession plan turns (code_of (cond a statuses.Clean (cond b statuses.GaveUp statuses.Faulty))) js → HasOrder plan turns None js
    by_tests true b has = ended_order plan turns has.groups js has.some has.session.order_kept has.session.verdicts
    by_tests false true has = ended_order plan turns has.groups js has.some has.session.order_kept has.session.verdicts
    by_tests false false has = ended_order plan turns has.groups js has.some has.session.order_kept has.session.verdicts

-- is one whatever the check says, and also as one that was cut short
pub checked_session : (plan : Plan) (turns : ℕ) (sick : Bool) (js : List Entry) → HasSession plan turns (code_of (repaired_status false js)) js → HasSession plan turns (code_of (repaired_status sick js)) js
checked_session plan turns sick js has = whole_session plan turns sick js (repaired_order plan turns js has)

pub cut_whole : (plan : Plan) (turns s t : ℕ) (js : List Entry) → is_cut t ≡ true → HasSession plan turns s js → HasSession plan turns t js
cut_whole plan turns s t js is has = cut_session plan turns s t js js is ([], sym (append-nil js)) has
