-- Cursors at one place of the common order: how they are found, and how they go on.
use Rattle.std.proofs.Common.{◌≡◌, ℕ, zero, suc, ◌+◌, ◌-◌, ◌<◌, ◌≤◌, Bool, true, false, List, [], ◌∷◌, ◌++◌, length, get_or, take, drop, refl, sym, ap, subst, ◌∙◌, arith, length-drop, inl, inr}
use Rattle.std.specs.Prelude.{not}
use Rattle.std.proofs.Math.Seq.{drop-length}
use Rattle.std.proofs.lemmas.Bool.{cases_Bool}
use Rattle.std.proofs.lemmas.List.{drop_all}
use Rattle.sblock.specs.Lists.{IsAhead, Rises, Each}
use Rattle.xref_scrub.specs.Cursors.{IsNotBehind, AllBefore, NoneBehind, IsParted, is_first_next}
use Rattle.xref_scrub.specs.Merging.{merged}
use Rattle.xref_scrub.proofs.MergeLemmas.{merged_first, merged_second}
use Rattle.xref_scrub.proofs.OrderLemmas.{IsOrder, not_true, not_not, each_of, each_joined, one_more_taken, rest_at, front_before, rest_rises, not_behind_along, not_ahead_along}

module _ {R : Type 0} (before : R → R → Bool) where
  all_before_end : (passed rest : List R) → rest ≡ [] → AllBefore before passed rest
  all_before_end passed [] e = tt
  all_before_end passed (r ∷ rest) e = cc

  none_behind_end : (passed rest : List R) → rest ≡ [] → NoneBehind before passed rest
  none_behind_end passed [] e = tt
  none_behind_end passed (r ∷ rest) e = cc

  all_before_start : (rest : List R) → AllBefore before [] rest
  all_before_start [] = tt
  all_before_start (r ∷ rest) = tt

  none_behind_start : (rest : List R) → NoneBehind before [] rest
  none_behind_start [] = tt
  none_behind_start (s ∷ rest) = tt

  -- ---- both ends of the search

  pub below_start : (first second : List R) (low n : ℕ) → low ≡ n - length second → NoneBehind before (take low first) (drop (n - low) second)
  below_start first second zero n e = none_behind_start (drop (n - zero) second)
  below_start first second (suc low) n e = none_behind_end (take (suc low) first) (drop (n - suc low) second) (drop_all (n - suc low) second (omega (arith, e)))

  above_start : (first second : List R) (high k : ℕ) → (k ≡ 0 → AllBefore before (take k second) (drop high first))
  above_start first second high zero e = all_before_start (drop high first)
  above_start first second high (suc k) e = absurd (omega arith)

  pub above_end : (first second : List R) (high n : ℕ) → (length first ≤ high → AllBefore before (take (n - high) second) (drop high first))
  above_end first second high n past = all_before_end (take (n - high) second) (drop high first) (drop_all high first past)

  pub above_all : (first second : List R) (high n : ℕ) → n ≤ high → AllBefore before (take (n - high) second) (drop high first)
  above_all first second high n past = above_start first second high (n - high) (omega (arith, past))

  pub parted_ends : (first second : List R) → IsParted before first second (length first) (length second)
  parted_ends first second = record {
    within_first = omega arith;
    within_second = omega arith;
    second_passed = all_before_end (take (length second) second) (drop (length first) first) (drop-length first);
    first_passed = none_behind_end (take (length first) first) (drop (length second) second) (drop-length second);
  }

  pub parted_start : (first second : List R) → IsParted before first second 0 0
  parted_start first second = record {
    within_first = omega arith;
    within_second = omega arith;
    second_passed = all_before_start (drop 0 first);
    first_passed = none_behind_start (drop 0 second);
  }

  -- ---- which one comes next

  pub first_ended : (first second : List R) (i j : ℕ) → length first ≤ i → is_first_next before (drop i first) (drop j second) ≡ false
  first_ended first second i j past = rw (drop_all i first past) refl

  some_left : (rs : List R) → 0 < length rs → is_first_next before rs [] ≡ true
  some_left [] lt = absurd (omega arith)
  some_left (r ∷ rs) lt = refl

  pub second_ended : (first second : List R) (i j : ℕ) → i < length first → length second ≤ j → is_first_next before (drop i first) (drop j second) ≡ true
  second_ended first second i j lt past = rw (drop_all j second past) (some_left (drop i first) (rw (length-drop i first) (omega arith)))

  pub both_left : (first second : List R) (i j : ℕ) (r s : R) → i < length first → r ≡ get_or first i r → j < length second → s ≡ get_or second j s
      → is_first_next before (drop i first) (drop j second) ≡ not (before s r)
  both_left first second i j r s lt e lu f = rw (rest_at first i r lt e, rest_at second j s lu f) refl

  not_behind_next : (r : R) (rs ss : List R) → is_first_next before (r ∷ rs) ss ≡ true → IsNotBehind before r ss
  not_behind_next r rs [] h = tt
  not_behind_next r rs (s ∷ ss) h = not_not (before s r) h

  double : (b : Bool) → not b ≡ false → b ≡ true
  double true h = refl
  double false h = cc

  ahead_next : (s : R) (rs ss : List R) → is_first_next before rs (s ∷ ss) ≡ false → IsAhead before s rs
  ahead_next s [] ss h = tt
  ahead_next s (r ∷ rs) ss h = double (before s r) h

  pub not_behind_at : (first second : List R) (i j : ℕ) (r : R) → i < length first → r ≡ get_or first i r → is_first_next before (drop i first) (drop j second) ≡ true → IsNotBehind before r (drop j second)
  not_behind_at first second i j r lt e h =
      not_behind_next r (drop (i + 1) first) (drop j second) (subst (λ (rs : List R). is_first_next before rs (drop j second) ≡ true) (rest_at first i r lt e) h)

  pub ahead_at : (first second : List R) (i j : ℕ) (s : R) → j < length second → s ≡ get_or second j s → is_first_next before (drop i first) (drop j second) ≡ false → IsAhead before s (drop i first)
  ahead_at first second i j s lt e h =
      ahead_next s (drop i first) (drop (j + 1) second) (subst (λ (ss : List R). is_first_next before (drop i first) ss ≡ false) (rest_at second j s lt e) h)

  -- what was passed, at the record that is left
  pub passed_before : (first second : List R) (i j : ℕ) (r : R) → i < length first → r ≡ get_or first i r → IsParted before first second i j → Each (λ q. before q r) (take j second)
  passed_before first second i j r lt e p = subst (AllBefore before (take j second)) (rest_at first i r lt e) p.second_passed

  pub passed_not_behind : (first second : List R) (i j : ℕ) (s : R) → j < length second → s ≡ get_or second j s → IsParted before first second i j → Each (λ q. not (before s q)) (take i first)
  passed_not_behind first second i j s lt e p = subst (NoneBehind before (take i first)) (rest_at second j s lt e) p.first_passed

-- ---- the cursors go on

module _ {R : Type 0} (before : R → R → Bool) (order : IsOrder before) where
  all_before_next : (passed : List R) (r : R) (rest : List R) → AllBefore before passed (r ∷ rest) → IsAhead before r rest → AllBefore before passed rest
  all_before_next passed r [] h ahead = tt
  all_before_next passed r (t ∷ rest) h ahead = each_of (λ q. before q r) (λ q. before q t) (λ q early. order.along q r t early ahead) passed h

  none_behind_next : (passed : List R) (s : R) (rest : List R) → NoneBehind before passed (s ∷ rest) → IsAhead before s rest → NoneBehind before passed rest
  none_behind_next passed s [] h ahead = tt
  none_behind_next passed s (t ∷ rest) h ahead =
      each_of (λ p. not (before s p)) (λ p. not (before t p)) (λ p late. not_true (before t p) (not_behind_along before order p s t ahead (not_not (before s p) late))) passed h

  none_behind_more : (passed : List R) (r : R) (rest : List R) → NoneBehind before passed rest → IsNotBehind before r rest → NoneBehind before (passed ++ r ∷ []) rest
  none_behind_more passed r [] h late = tt
  none_behind_more passed r (s ∷ rest) h late = each_joined (λ p. not (before s p)) passed (r ∷ []) h (not_true (before s r) late, tt)

  all_before_more : (passed : List R) (s : R) (rest : List R) → AllBefore before passed rest → IsAhead before s rest → AllBefore before (passed ++ s ∷ []) rest
  all_before_more passed s [] h ahead = tt
  all_before_more passed s (r ∷ rest) h ahead = each_joined (λ q. before q r) passed (s ∷ []) h (ahead, tt)

  pub next_first : (first second : List R) (i j : ℕ) (r : R) → Rises before first → i < length first → r ≡ get_or first i r → IsNotBehind before r (drop j second)
      → IsParted before first second i j → IsParted before first second (i + 1) j
  next_first first second i j r rises lt e late p = record {
    within_first = omega arith;
    within_second = p.within_second;
    second_passed = all_before_next (take j second) r (drop (i + 1) first) (passed_before before first second i j r lt e p) (rest_rises before order first i r lt e rises).0;
    first_passed = rw (one_more_taken first i r lt e) (none_behind_more (take i first) r (drop j second) p.first_passed late);
  }

  pub next_second : (first second : List R) (i j : ℕ) (s : R) → Rises before second → j < length second → s ≡ get_or second j s → IsAhead before s (drop i first)
      → IsParted before first second i j → IsParted before first second i (j + 1)
  next_second first second i j s rises lt e ahead p = record {
    within_first = p.within_first;
    within_second = omega arith;
    second_passed = rw (one_more_taken second j s lt e) (all_before_more (take j second) s (drop i first) p.second_passed ahead);
    first_passed = none_behind_next (take i first) s (drop (j + 1) second) (passed_not_behind before first second i j s lt e p) (rest_rises before order second j s lt e rises).0;
  }

  -- ---- a turn of the search

  -- the record of the second list in front of its cursor comes before the first list's
  pub higher : (first second : List R) (m k : ℕ) (r s : R) → Rises before second → m < length first → r ≡ get_or first m r → k < length second → s ≡ get_or second k s → before s r ≡ true
      → AllBefore before (take (k + 1) second) (drop m first)
  higher first second m k r s rises lt e lu f h =
      let front : Each (λ q. before q r) (take k second) = each_of (λ q. before q s) (λ q. before q r) (λ q early. order.along q s r early h) (take k second) (front_before before order second k s lu f rises) in
      rw (one_more_taken second k s lu f, rest_at first m r lt e) (each_joined (λ q. before q r) (take k second) (s ∷ []) front (h, tt))

  pub lower : (first second : List R) (m k : ℕ) (r s : R) → Rises before first → m < length first → r ≡ get_or first m r → k < length second → s ≡ get_or second k s → before s r ≡ false
      → NoneBehind before (take (m + 1) first) (drop k second)
  lower first second m k r s rises lt e lu f h =
      let front : Each (λ q. not (before s q)) (take m first) = each_of (λ q. before q r) (λ q. not (before s q)) (λ q early. not_true (before s q) (not_ahead_along before order s q r early h)) (take m first) (front_before before order first m r lt e rises) in
      rw (one_more_taken first m r lt e, rest_at second k s lu f) (each_joined (λ q. not (before s q)) (take m first) (r ∷ []) front (not_true (before s r) h, tt))

  pub higher_at : (first second : List R) (m n : ℕ) (r s : R) → Rises before second → m < length first → r ≡ get_or first m r → m < n → n - m - 1 < length second → s ≡ get_or second (n - m - 1) s
      → before s r ≡ true → AllBefore before (take (n - m) second) (drop m first)
  higher_at first second m n r s rises lt e some lu f h =
      let place : (n - m - 1) + 1 ≡ n - m = omega arith in
      subst (λ (k : ℕ). AllBefore before (take k second) (drop m first)) place (higher first second m (n - m - 1) r s rises lt e lu f h)

  pub lower_at : (first second : List R) (m n : ℕ) (r s : R) → Rises before first → m < length first → r ≡ get_or first m r → n - m - 1 < length second → s ≡ get_or second (n - m - 1) s
      → before s r ≡ false → NoneBehind before (take (m + 1) first) (drop (n - (m + 1)) second)
  lower_at first second m n r s rises lt e lu f h =
      let place : n - m - 1 ≡ n - (m + 1) = omega arith in
      subst (λ (k : ℕ). NoneBehind before (take (m + 1) first) (drop k second)) place (lower first second m (n - m - 1) r s rises lt e lu f h)

-- ---- what is left at the cursors is what is left of the merged list

module _ {R T : Type 0} (before : R → R → Bool) (left right : R → T) where
  back_first : (r : R) (rs ss : List R) (i j : ℕ) → IsParted before (r ∷ rs) ss (suc i) j → IsParted before rs ss i j
  back_first r rs ss i j p = record {
    within_first = let within = p.within_first in omega arith;
    within_second = p.within_second;
    second_passed = p.second_passed;
    first_passed = rest (drop j ss) p.first_passed;
  }
    where
      rest : (ts : List R) → NoneBehind before (r ∷ take i rs) ts → NoneBehind before (take i rs) ts
      rest [] h = tt
      rest (t ∷ ts) h = h.1

  back_second : (s : R) (rs ss : List R) (i j : ℕ) → IsParted before rs (s ∷ ss) i (suc j) → IsParted before rs ss i j
  back_second s rs ss i j p = record {
    within_first = p.within_first;
    within_second = let within = p.within_second in omega arith;
    second_passed = rest (drop i rs) p.second_passed;
    first_passed = p.first_passed;
  }
    where
      rest : (ts : List R) → AllBefore before (s ∷ take j ss) ts → AllBefore before (take j ss) ts
      rest [] h = tt
      rest (t ∷ ts) h = h.1

  abbrev AtNumber : ℕ → Type 0
  AtNumber n = (i j : ℕ) → i + j ≡ n → (first second : List R) → IsParted before first second i j
      → merged before left right (drop i first) (drop j second) ≡ drop n (merged before left right first second)

  by_first : (n : ℕ) → AtNumber n → (i j : ℕ) → suc i + j ≡ suc n → (r : R) (rs ss : List R) → IsNotBehind before r ss → IsParted before (r ∷ rs) ss (suc i) j
      → merged before left right (drop (suc i) (r ∷ rs)) (drop j ss) ≡ drop (suc n) (merged before left right (r ∷ rs) ss)
  by_first n ih i j e r rs ss h p =
      ih i j (omega arith) rs ss (back_first r rs ss i j p) ∙ sym (ap (drop (suc n)) (merged_first before left right r rs ss h))

  by_second : (n : ℕ) → AtNumber n → (i j : ℕ) → i + suc j ≡ suc n → (s : R) (rs ss : List R) → IsAhead before s rs → IsParted before rs (s ∷ ss) i (suc j)
      → merged before left right (drop i rs) (drop (suc j) (s ∷ ss)) ≡ drop (suc n) (merged before left right rs (s ∷ ss))
  by_second n ih i j e s rs ss h p =
      ih i j (omega arith) rs ss (back_second s rs ss i j p) ∙ sym (ap (drop (suc n)) (merged_second before left right s rs ss h))

  pub rest_at_number : (n : ℕ) → AtNumber n
  rest_at_number zero zero zero e first second p = refl
  rest_at_number zero zero (suc j) e first second p = absurd (omega arith)
  rest_at_number zero (suc i) j e first second p = absurd (omega arith)
  rest_at_number (suc n) zero zero e first second p = absurd (omega arith)
  rest_at_number (suc n) zero (suc j) e first [] p = let within = p.within_second in absurd (omega arith)
  rest_at_number (suc n) zero (suc j) e [] (s ∷ ss) p = by_second n (rest_at_number n) zero j e s [] ss tt p
  rest_at_number (suc n) zero (suc j) e (r ∷ rs) (s ∷ ss) p = by_second n (rest_at_number n) zero j e s (r ∷ rs) ss p.second_passed.0 p
  rest_at_number (suc n) (suc i) j e [] second p = let within = p.within_first in absurd (omega arith)
  rest_at_number (suc n) (suc i) zero e (r ∷ rs) [] p = by_first n (rest_at_number n) i zero e r rs [] tt p
  rest_at_number (suc n) (suc i) zero e (r ∷ rs) (s ∷ ss) p = by_first n (rest_at_number n) i zero e r rs (s ∷ ss) (not_not (before s r) p.first_passed.0) p
  rest_at_number (suc n) (suc i) (suc j) e (r ∷ rs) [] p = let within = p.within_second in absurd (omega arith)
  rest_at_number (suc n) (suc i) (suc j) e (r ∷ rs) (s ∷ ss) p = elim (cases_Bool (before s r)) [
    | inl early ↦ by_second n (rest_at_number n) (suc i) j e s (r ∷ rs) ss early p
    | inr late ↦ by_first n (rest_at_number n) i (suc j) e r rs (s ∷ ss) late p
  ]
