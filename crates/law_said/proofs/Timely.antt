-- How far the work on each unit is says which units were judged before.
use Rattle.std.proofs.Common.{◌≡◌, ℕ, ◌<◌, Bool, true, false, List, [], ◌∷◌, refl, ap, sym, subst, ◌∙◌, inl, inr, arith}
use Rattle.std.specs.Prelude.{◌⊎◌, if◌then◌else◌, nat_lt}
use Rattle.std.proofs.lemmas.Bool.{cases_Bool, false≢true, ltb-true, true≢false}
use Rattle.fs_change.specs.Step.{Step}
use Rattle.fs_state.specs.Faults.{kind_of_fault}
use Rattle.fs_state.specs.Records.{unit_of}
use Rattle.fs_state.specs.Session.{is_at, is_passed, stands}
use Rattle.fs_state.specs.declared.plan.Plan.{Plan}
use Rattle.fs_state.specs.declared.plan.Plan.TheVariants.{Check, Repair, Rebuild}
use Rattle.fs_model.specs.declared.entry.Entry.{Entry}
use Rattle.fs_model.specs.declared.entry.Entry.TheVariants as entries
use Rattle.fs_model.specs.declared.unit.Unit.{Unit as ScrubUnit}
use Rattle.fs_model.specs.declared.verdict.Verdict.{Verdict}
use Rattle.fs_model.specs.declared.verdict.Verdict.TheVariants as verdicts
use Rattle.fs_said.specs.Said.{Begun, HasCause, IsSaid, IsTold, MayBegin, Stage, StandsBehind, Told, Unbegun, count_said, stage_after, told_after, was_ready}
use Rattle.fs_state.specs.State.{State}
use Rattle.sblock.specs.declared.kind.Kind.{Kind}
use Rattle.law_said.proofs.Places.{NoneFell, false_if}
use Rattle.law_said.proofs.Ready.{Needs, needs_more, ready_needs}
use Rattle.law_said.proofs.Tests.{at_other, at_place, on_false, on_true, spared}
use Rattle.law_said.specs.InTime.{MakesInTime, is_repair_in, was_judged}

abbrev pub IsBegun : Stage → Type 0
IsBegun Unbegun = ⊥
IsBegun (Begun count left) = Unit {0}

-- of a switch that is the last entry
abbrev pub SwitchNeeds : List Entry → Type 0
SwitchNeeds (entries.Switched g u root second ∷ past) = Needs g u past
SwitchNeeds past = Unit {0}

-- a unit that is begun, or that stands, was ready; and of one that stands no fault was said since
pub record Timely (t : Told) : Type 0 where
  pub begun : (g : ℕ) (u : ScrubUnit) → IsBegun (t.stage g u) → Needs g u t.past
  pub passed : (g : ℕ) (u : ScrubUnit) → stands g u t.past ≡ true → Needs g u t.past
  pub counted : (g : ℕ) (u : ScrubUnit) → 0 < count_said (t.stage g u) → stands g u t.past ≡ false
  pub switched : SwitchNeeds t.past

-- ---- one stage or another

if_begun : (x : Bool) (r s : Stage) → IsBegun (if x then r else s) → ((x ≡ true) × IsBegun r) ⊎ ((x ≡ false) × IsBegun s)
if_begun true r s h = inl (refl, h)
if_begun false r s h = inr (refl, h)

if_counted : (x : Bool) (r s : Stage) → 0 < count_said (if x then r else s) → ((x ≡ true) × (0 < count_said r)) ⊎ ((x ≡ false) × (0 < count_said s))
if_counted true r s h = inl (refl, h)
if_counted false r s h = inr (refl, h)

module _ (plan : Plan) (a b : State) (n : ℕ) (counts : a.geometry.agcount ≡ n) (left : List Kind) (t : Told) (old : Timely t) where
  -- a unit that may begin, or has begun, was ready
  begins : (g : ℕ) (u : ScrubUnit) → g < n → (s : Stage) → t.stage g u ≡ s → MayBegin a t.past g u s → Needs g u t.past
  begins g u lt Unbegun is may = ready_needs n g u t.past lt (subst (λ (m : ℕ). was_ready m g u t.past ≡ true) counts may.0)
  begins g u lt (Begun count rest) is may = old.begun g u (subst IsBegun (sym is) tt)

  pub may_begin : (g : ℕ) (u : ScrubUnit) → g < n → MayBegin a t.past g u (t.stage g u) → Needs g u t.past
  may_begin g u lt may = begins g u lt (t.stage g u) refl may

  inside : (g : ℕ) → nat_lt g n ≡ true → g < n
  inside g h = ltb-true g n h

  begun_after : (e : Entry) → is_repair_in n e ≡ true → IsSaid plan a t e → (g : ℕ) (u : ScrubUnit) → IsBegun ((told_after a e t).stage g u) → Needs g u (e ∷ t.past)
  begun_after (entries.Fault h v fault) lt said g u begun = needs_more g u (entries.Fault h v fault) t.past
      (elim (if_begun (is_at g u h v) (stage_after a g u (entries.Fault h v fault) (t.stage g u)) (t.stage g u) begun) [
        | inl here ↦ at_place (λ i w. Needs i w t.past) g u h v here.0 (may_begin h v (inside h lt) said.so.0)
        | inr away ↦ old.begun g u away.1
      ])
  begun_after (entries.Reserved h v block spare) lt said g u begun = needs_more g u (entries.Reserved h v block spare) t.past
      (elim (if_begun (is_at g u h v) (stage_after a g u (entries.Reserved h v block spare) (t.stage g u)) (t.stage g u) begun) [
        | inl here ↦ at_place (λ i w. Needs i w t.past) g u h v here.0 (may_begin h v (inside h lt) said.so.judged.begins)
        | inr away ↦ old.begun g u away.1
      ])
  begun_after (entries.Switched h v root second) lt said g u begun = needs_more g u (entries.Switched h v root second) t.past
      (elim (if_begun (is_at g u h v) (stage_after a g u (entries.Switched h v root second) (t.stage g u)) (t.stage g u) begun) [
        | inl here ↦ at_place (λ i w. Needs i w t.past) g u h v here.0 (may_begin h v (inside h lt) said.so.judged.begins)
        | inr away ↦ old.begun g u away.1
      ])
  begun_after (entries.Verdict h v w) lt said g u begun = needs_more g u (entries.Verdict h v w) t.past
      (elim (if_begun (is_at g u h v) Unbegun (t.stage g u) begun) [ inl here ↦ absurd here.1 | inr away ↦ old.begun g u away.1 ])
  begun_after (entries.Released h v) lt said g u begun = needs_more g u (entries.Released h v) t.past
      (elim (if_begun (is_at g u h v) Unbegun (t.stage g u) begun) [ inl here ↦ absurd here.1 | inr away ↦ old.begun g u away.1 ])
  begun_after e lt said g u begun = needs_more g u e t.past (old.begun g u begun)

  behind_switch : (h : ℕ) (v : ScrubUnit) (past : List Entry) → StandsBehind past (entries.Verdict h v verdicts.Rebuilt) → SwitchNeeds past → Needs h v past
  behind_switch h v [] behind needs = absurd behind
  behind_switch h v (entries.Switched g u root second ∷ past) behind needs = needs_more h v (entries.Switched g u root second) past (at_other (λ i w. Needs i w past) g u h v behind needs)
  behind_switch h v (e ∷ past) behind needs = absurd behind

  own_verdict : (h : ℕ) (v : ScrubUnit) (w : Verdict) → h < n → is_passed w ≡ true → StandsBehind t.past (entries.Verdict h v w) → IsTold plan a t.past h v (t.stage h v) w → Needs h v t.past
  own_verdict h v verdicts.Good lt passed behind told = ready_needs n h v t.past lt (subst (λ (m : ℕ). was_ready m h v t.past ≡ true) counts told.0.ready)
  own_verdict h v verdicts.Rebuilt lt passed behind told = behind_switch h v t.past behind old.switched
  own_verdict h v w lt passed behind told = absurd (false≢true passed)

  passed_after : (e : Entry) → is_repair_in n e ≡ true → IsSaid plan a t e → (g : ℕ) (u : ScrubUnit) → stands g u (e ∷ t.past) ≡ true → Needs g u (e ∷ t.past)
  unfolding stands
  passed_after (entries.Verdict h v w) lt said g u st = needs_more g u (entries.Verdict h v w) t.past (elim (cases_Bool (is_at g u h v)) [
    | inl here ↦
        at_place (λ i x. Needs i x t.past) g u h v here
        (own_verdict h v w (inside h lt) (sym (on_true (is_at g u h v) (is_passed w) (stands g u t.past) here) ∙ st) said.behind said.so)
    | inr away ↦ old.passed g u (sym (on_false (is_at g u h v) (is_passed w) (stands g u t.past) away) ∙ st)
  ])
  passed_after (entries.Fault h v fault) lt said g u st = needs_more g u (entries.Fault h v fault) t.past (old.passed g u (spared (is_at g u h (unit_of (kind_of_fault fault))) (stands g u t.past) st).1)
  passed_after (entries.Marked h k cause) lt said g u st = needs_more g u (entries.Marked h k cause) t.past (old.passed g u (spared (is_at g u h (unit_of k)) (stands g u t.past) st).1)
  passed_after e lt said g u st = needs_more g u e t.past (old.passed g u st)

  counted_after : (e : Entry) → Step a left e b → (g : ℕ) (u : ScrubUnit) → 0 < count_said ((told_after a e t).stage g u) → stands g u (e ∷ t.past) ≡ false
  unfolding stands
  counted_after (entries.Fault h v fault) s g u some = elim (if_counted (is_at g u h v) (stage_after a g u (entries.Fault h v fault) (t.stage g u)) (t.stage g u) some) [
    | inl here ↦
        let own : is_at g u h (unit_of (kind_of_fault fault)) ≡ true = subst (λ (w : ScrubUnit). is_at g u h w ≡ true) s.row.1 here.0 in
        on_true (is_at g u h (unit_of (kind_of_fault fault))) false (stands g u t.past) own
    | inr away ↦ false_if (is_at g u h (unit_of (kind_of_fault fault))) (stands g u t.past) (old.counted g u away.1)
  ]
  counted_after (entries.Marked h k cause) s g u some = false_if (is_at g u h (unit_of k)) (stands g u t.past) (old.counted g u some)
  counted_after (entries.Reserved h v block spare) s g u some = elim (if_counted (is_at g u h v) (stage_after a g u (entries.Reserved h v block spare) (t.stage g u)) (t.stage g u) some) [
    | inl here ↦ old.counted g u here.1
    | inr away ↦ old.counted g u away.1
  ]
  counted_after (entries.Switched h v root second) s g u some = elim (if_counted (is_at g u h v) (stage_after a g u (entries.Switched h v root second) (t.stage g u)) (t.stage g u) some) [
    | inl here ↦ old.counted g u here.1
    | inr away ↦ old.counted g u away.1
  ]
  counted_after (entries.Verdict h v w) s g u some = elim (if_counted (is_at g u h v) Unbegun (t.stage g u) some) [
    | inl here ↦ absurd (let none = here.1 in omega (arith, none))
    | inr away ↦ on_false (is_at g u h v) (is_passed w) (stands g u t.past) away.0 ∙ old.counted g u away.1
  ]
  counted_after (entries.Released h v) s g u some = elim (if_counted (is_at g u h v) Unbegun (t.stage g u) some) [
    | inl here ↦ absurd (let none = here.1 in omega (arith, none))
    | inr away ↦ old.counted g u away.1
  ]
  counted_after e s g u some = old.counted g u some

  switched_after : (e : Entry) → is_repair_in n e ≡ true → IsSaid plan a t e → SwitchNeeds (e ∷ t.past)
  switched_after (entries.Switched h v root second) lt said = may_begin h v (inside h lt) said.so.judged.begins
  switched_after e lt said = tt

  pub timely_after : (e : Entry) → is_repair_in n e ≡ true → IsSaid plan a t e → Step a left e b → Timely (told_after a e t)
  timely_after e lt said s = record {
    begun = begun_after e lt said;
    passed = passed_after e lt said;
    counted = counted_after e s;
    switched = switched_after e lt said;
  }

  -- ---- what is rebuilt where faults of it were said wasn't judged before

  early : (g : ℕ) (u : ScrubUnit) (p : Plan) → NoneFell t.past → HasCause p (count_said (t.stage g u)) → (p ≡ Rebuild → was_judged g u t.past ≡ false) → was_judged g u t.past ≡ false
  early g u Check none cause given = absurd cause
  early g u Repair none cause given = elim (cases_Bool (was_judged g u t.past)) [
    | inl judged ↦ absurd (true≢false (sym (none g u judged) ∙ old.counted g u cause))
    | inr not ↦ not
  ]
  early g u Rebuild none cause given = given refl

  pub in_time : (e : Entry) → NoneFell t.past → IsSaid plan a t e → (plan ≡ Rebuild → MakesInTime t.past e) → MakesInTime t.past e
  in_time (entries.Reserved h v block spare) none said given = early h v plan none said.so.cause given
  in_time (entries.Switched h v root second) none said given = early h v plan none said.so.cause given
  in_time e none said given = tt

pub nothing_timely : (t : Told) → t.past ≡ [] → ((g : ℕ) (u : ScrubUnit) → t.stage g u ≡ Unbegun) → Timely t
unfolding stands
nothing_timely t empty unbegun = record {
  begun = λ g u begun. absurd (subst IsBegun (unbegun g u) begun);
  passed = λ g u st. absurd (false≢true (sym (ap (stands g u) empty) ∙ st));
  counted = λ g u some. ap (stands g u) empty;
  switched = subst SwitchNeeds (sym empty) tt;
}
