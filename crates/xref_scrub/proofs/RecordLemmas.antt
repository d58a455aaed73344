-- Which record of a rising list can be the same as another one.
use Rattle.std.proofs.Common.{◌≡◌, ℕ, ◌+◌, ◌-◌, ◌<◌, ◌≤◌, Bool, true, false, ◌||◌, List, [], ◌∷◌, ◌++◌, length, get_or, take, drop, refl, sym, ap, subst, ◌∙◌, arith, inl, inr}
use Rattle.std.specs.Prelude.{not, ◌↔◌}
use Rattle.std.specs.List.{list_any}
use Rattle.std.proofs.lemmas.Bool.{false≢true, cases_Bool}
use Rattle.std.proofs.lemmas.List.{take-append-drop, drop_all}
use Rattle.std.proofs.lemmas.List.Folds.{list_any-append}
use Rattle.sblock.specs.Lists.{IsAhead, Rises, Each}
use Rattle.xref_scrub.specs.Cursors.{IsNotBehind}
use Rattle.xref_scrub.proofs.OrderLemmas.{IsOrder, not_true, not_not, each_of, one_more_taken, rest_at, before_all, front_before, rises_dropped}

or_none : (a b : Bool) → b ≡ false → (a || b) ≡ a
or_none true b h = refl
or_none false b h = h

module _ {R : Type 0} (before : R → R → Bool) (order : IsOrder before) (is_same : R → R → Bool) (same : (r s : R) → (is_same r s ≡ true) ↔ (r ≡ s)) where
  -- records are not the same where one of them lies apart from the other
  apart : (r s t : R) (b : Bool) → before s t ≡ b → before s r ≡ not b → is_same r t ≡ false
  apart r s t b h g = elim (cases_Bool (is_same r t)) [
    | inl equal ↦ absurd (unlike b (sym h ∙ (sym (ap (before s) ((same r t).0 equal)) ∙ g)))
    | inr other ↦ other
  ]
    where
      unlike : (c : Bool) → c ≡ not c → ⊥
      unlike true e = cc
      unlike false e = cc

  behind_it : (r t : R) → before r t ≡ true → is_same r t ≡ false
  behind_it r t h = apart r r t true h (order.strict r)

  before_it : (r t : R) → before t r ≡ true → is_same r t ≡ false
  before_it r t h = apart r t t false (order.strict t) h

  none_same : (r : R) (ts : List R) → Each (λ t. not (is_same r t)) ts → list_any (is_same r) ts ≡ false
  none_same r [] h = refl
  none_same r (t ∷ ts) h = rw (not_not (is_same r t) h.0, none_same r ts h.1) refl

  none_behind : (r : R) (ts : List R) → IsAhead before r ts → Rises before ts → list_any (is_same r) ts ≡ false
  none_behind r ts h g = none_same r ts (each_of (before r) (λ t. not (is_same r t)) (λ t later. not_true (is_same r t) (behind_it r t later)) ts (before_all before order r ts h g))

  none_before : (r : R) (ts : List R) → Each (λ t. before t r) ts → list_any (is_same r) ts ≡ false
  none_before r ts h = none_same r ts (each_of (λ t. before t r) (λ t. not (is_same r t)) (λ t early. not_true (is_same r t) (before_it r t early)) ts h)

  -- behind a record that doesn't come before this one
  none_past : (r s : R) (ts : List R) → before s r ≡ false → IsAhead before s ts → Rises before ts → list_any (is_same r) ts ≡ false
  none_past r s ts late h g = none_same r ts (each_of (before s) (λ t. not (is_same r t)) (λ t later. not_true (is_same r t) (apart r s t true later late)) ts (before_all before order s ts h g))

  -- among those that come before one which this one doesn't come before
  none_front : (r p : R) (ts : List R) → before r p ≡ false → Each (λ t. before t p) ts → list_any (is_same r) ts ≡ false
  none_front r p ts late h = none_same r ts (each_of (λ t. before t p) (λ t. not (is_same r t)) (λ t early. not_true (is_same r t) (other t early)) ts h)
    where
      other : (t : R) → before t p ≡ true → is_same r t ≡ false
      other t early = elim (cases_Bool (is_same r t)) [
        | inl equal ↦ absurd (false≢true (sym late ∙ (ap (λ (u : R). before u p) ((same r t).0 equal) ∙ early)))
        | inr none ↦ none
      ]

  parted : (r : R) (list : List R) (k : ℕ) → list_any (is_same r) list ≡ (list_any (is_same r) (take k list) || list_any (is_same r) (drop k list))
  parted r list k = ap (list_any (is_same r)) (sym (take-append-drop k list)) ∙ list_any-append (is_same r) (take k list) (drop k list)

  -- only the record at the cursor can be the same
  pub only_here : (r s : R) (list : List R) (k : ℕ) → k < length list → s ≡ get_or list k s → Rises before list
      → Each (λ t. before t r) (take k list) → IsNotBehind before r (drop k list) → list_any (is_same r) list ≡ is_same r s
  only_here r s list k lt e rises passed late =
      let rest = rest_at list k s lt e in
      let rest_rises : Rises before (s ∷ drop (k + 1) list) = subst (Rises before) rest (rises_dropped before order k list rises) in
      let here : before s r ≡ false = subst (IsNotBehind before r) rest late in
      let none = none_past r s (drop (k + 1) list) here rest_rises.0 rest_rises.1 in
      parted r list k ∙ rw (none_before r (take k list) passed, rest) (or_none (is_same r s) _ none)

  pub nowhere : (r : R) (list : List R) (k : ℕ) → length list ≤ k → Each (λ t. before t r) (take k list) → list_any (is_same r) list ≡ false
  nowhere r list k past passed = parted r list k ∙ rw (none_before r (take k list) passed, drop_all k list past) refl

  -- only the record in front of the cursor can be the same
  pub only_in_front : (r p : R) (list : List R) (k : ℕ) → k < length list → p ≡ get_or list k p → Rises before list
      → Each (λ t. not (before r t)) (take (k + 1) list) → IsAhead before r (drop (k + 1) list) → list_any (is_same r) list ≡ is_same r p
  only_in_front r p list k lt e rises passed ahead =
      let taken = one_more_taken list k p lt e in
      let both : Each (λ t. not (before r t)) (take k list ++ p ∷ []) = subst (Each (λ t. not (before r t))) taken passed in
      let late : before r p ≡ false = not_not (before r p) (last (take k list) p both) in
      let front = none_front r p (take k list) late (front_before before order list k p lt e rises) in
      let none = none_behind r (drop (k + 1) list) ahead (rises_dropped before order (k + 1) list rises) in
      parted r list (k + 1) ∙ rw (taken, list_any-append (is_same r) (take k list) (p ∷ []), front, none) (or_none (is_same r p || false) false refl ∙ or_none (is_same r p) false refl)
    where
      last : (ts : List R) (t : R) → Each (λ u. not (before r u)) (ts ++ t ∷ []) → not (before r t) ≡ true
      last [] t h = h.0
      last (u ∷ ts) t h = last ts t h.1

  pub not_yet : (r : R) (list : List R) → Rises before list → IsAhead before r list → list_any (is_same r) list ≡ false
  not_yet r list rises ahead = none_behind r list ahead rises

  pub only_before : (r p : R) (list : List R) (at : ℕ) → 0 < at → at ≤ length list → p ≡ get_or list (at - 1) p → Rises before list
      → Each (λ t. not (before r t)) (take at list) → IsAhead before r (drop at list) → list_any (is_same r) list ≡ is_same r p
  only_before r p list at some within e rises passed ahead =
      let place : at ≡ (at - 1) + 1 = omega arith in
      only_in_front r p list (at - 1) (omega arith) e rises (subst (λ (k : ℕ). Each (λ t. not (before r t)) (take k list)) place passed) (subst (λ (k : ℕ). IsAhead before r (drop k list)) place ahead)
