-- For which actors the two parts of a pass speak, where the pass spoke for n actors from a up. These are for callers of the lock.
use Rattle.std.proofs.Common.{◌≡◌, ℕ, ◌+◌, ◌-◌, ◌≤◌, ◌<◌, zero, suc, List, [], ◌∷◌, refl, sym, ap, ◌∙◌, subst, arith, length, map}
use native.Mathlib.Decide.{ℕ_discrete, dec_le}
use mathlib.Core.Option.{some}
use Rattle.turn_lock.specs.Lists.{from_up, Has, actors_of, below, above, skip_if, keep_if}

same_head : (x y : ℕ) (xs ys : List ℕ) → x ∷ xs ≡ y ∷ ys → x ≡ y
same_head x y xs ys e = cc

same_rest : (x y : ℕ) (xs ys : List ℕ) → x ∷ xs ≡ y ∷ ys → xs ≡ ys
same_rest x y xs ys e = cc

not_empty : (x : ℕ) (xs : List ℕ) → x ∷ xs ≡ [] → ⊥
not_empty x xs e = cc

pub length_from_up : (a n : ℕ) → length (from_up a n) ≡ n
length_from_up a zero = refl
length_from_up a (suc n) = let h = length_from_up (suc a) n in omega (arith, h)

module _ {K : Type 0} where
  skip_none : (n : ℕ) (p : ℕ × K) (ys : List (ℕ × K)) (zs : List ℕ) (d : Dec (n ≤ p.0)) → n ≤ p.0 → actors_of ys ≡ zs → actors_of (skip_if d p ys) ≡ zs
  skip_none n p ys zs (yes h) le e = e
  skip_none n p ys zs (no h) le e = absurd (h le)

  skip_kept : (n : ℕ) (p : ℕ × K) (ys : List (ℕ × K)) (zs : List ℕ) (d : Dec (n ≤ p.0)) → p.0 < n → actors_of ys ≡ zs → actors_of (skip_if d p ys) ≡ p.0 ∷ zs
  skip_kept n p ys zs (yes h) lt e = absurd (omega (arith, h, lt))
  skip_kept n p ys zs (no h) lt e = ap (λ l. p.0 ∷ l) e

  keep_kept : (n : ℕ) (p : ℕ × K) (ys : List (ℕ × K)) (zs : List ℕ) (d : Dec (n ≤ p.0)) → n ≤ p.0 → actors_of ys ≡ zs → actors_of (keep_if d p ys) ≡ p.0 ∷ zs
  keep_kept n p ys zs (yes h) le e = ap (λ l. p.0 ∷ l) e
  keep_kept n p ys zs (no h) le e = absurd (h le)

  keep_none : (n : ℕ) (p : ℕ × K) (ys : List (ℕ × K)) (zs : List ℕ) (d : Dec (n ≤ p.0)) → p.0 < n → actors_of ys ≡ zs → actors_of (keep_if d p ys) ≡ zs
  keep_none n p ys zs (yes h) lt e = absurd (omega (arith, h, lt))
  keep_none n p ys zs (no h) lt e = e

  none_below : (xs : List (ℕ × K)) (b m n : ℕ) → actors_of xs ≡ from_up b m → n ≤ b → actors_of (below n xs) ≡ []
  none_below [] b m n e le = refl
  none_below (p ∷ ps) b zero n e le = absurd (not_empty p.0 (actors_of ps) e)
  none_below (p ∷ ps) b (suc m) n e le =
      let f = same_head p.0 b (actors_of ps) (from_up (suc b) m) e in
      skip_none n p (below n ps) [] (dec_le n p.0) (omega (arith, f, le)) (none_below ps (suc b) m n (same_rest p.0 b (actors_of ps) (from_up (suc b) m) e) (omega (arith, le)))

  all_above : (xs : List (ℕ × K)) (b m n : ℕ) → actors_of xs ≡ from_up b m → n ≤ b → actors_of (above n xs) ≡ from_up b m
  all_above [] b m n e le = e
  all_above (p ∷ ps) b zero n e le = absurd (not_empty p.0 (actors_of ps) e)
  all_above (p ∷ ps) b (suc m) n e le =
      let f = same_head p.0 b (actors_of ps) (from_up (suc b) m) e in
      keep_kept n p (above n ps) (from_up (suc b) m) (dec_le n p.0) (omega (arith, f, le)) (all_above ps (suc b) m n (same_rest p.0 b (actors_of ps) (from_up (suc b) m) e) (omega (arith, le)))
      ∙ ap (λ k. k ∷ from_up (suc b) m) f

  -- the lower part speaks for the first h of them
  pub actors_below : (xs : List (ℕ × K)) (a n h : ℕ) → actors_of xs ≡ from_up a n → h ≤ n → actors_of (below (a + h) xs) ≡ from_up a h
  actors_below xs a n zero e le = none_below xs a n (a + 0) e (omega arith)
  actors_below [] a zero (suc h) e le = absurd (omega (arith, le))
  actors_below [] a (suc n) (suc h) e le = absurd (not_empty a (from_up (suc a) n) (sym e))
  actors_below (p ∷ ps) a zero (suc h) e le = absurd (omega (arith, le))
  actors_below (p ∷ ps) a (suc n) (suc h) e le =
      let f = same_head p.0 a (actors_of ps) (from_up (suc a) n) e in
      let i : actors_of (below (suc a + h) ps) ≡ from_up (suc a) h = actors_below ps (suc a) n h (same_rest p.0 a (actors_of ps) (from_up (suc a) n) e) (omega (arith, le)) in
      let k : suc a + h ≡ a + suc h = omega arith in
      skip_kept (a + suc h) p (below (a + suc h) ps) (from_up (suc a) h) (dec_le (a + suc h) p.0) (omega (arith, f)) (subst (λ m. actors_of (below m ps) ≡ from_up (suc a) h) k i)
      ∙ ap (λ k. k ∷ from_up (suc a) h) f

  -- and the upper part for the others
  pub actors_above : (xs : List (ℕ × K)) (a n h : ℕ) → actors_of xs ≡ from_up a n → h ≤ n → actors_of (above (a + h) xs) ≡ from_up (a + h) (n - h)
  actors_above xs a n zero e le = subst (λ m. actors_of (above m xs) ≡ from_up m n) (let z : a ≡ a + 0 = omega arith in z) (all_above xs a n a e (omega arith)) ∙ ap (λ m. from_up (a + 0) m) (let z : n ≡ n - 0 = omega arith in z)
  actors_above [] a zero (suc h) e le = absurd (omega (arith, le))
  actors_above [] a (suc n) (suc h) e le = absurd (not_empty a (from_up (suc a) n) (sym e))
  actors_above (p ∷ ps) a zero (suc h) e le = absurd (omega (arith, le))
  actors_above (p ∷ ps) a (suc n) (suc h) e le =
      let f = same_head p.0 a (actors_of ps) (from_up (suc a) n) e in
      let i : actors_of (above (suc a + h) ps) ≡ from_up (suc a + h) (n - h) = actors_above ps (suc a) n h (same_rest p.0 a (actors_of ps) (from_up (suc a) n) e) (omega (arith, le)) in
      let k : suc a + h ≡ a + suc h = omega arith in
      let m : n - h ≡ suc n - suc h = omega arith in
      keep_none (a + suc h) p (above (a + suc h) ps) (from_up (a + suc h) (suc n - suc h)) (dec_le (a + suc h) p.0) (omega (arith, f))
      (subst (λ m. actors_of (above (a + suc h) ps) ≡ from_up (a + suc h) m) m (subst (λ m. actors_of (above m ps) ≡ from_up m (n - h)) k i))

  -- a turn leaves the actors as they are
  pub actors_kept : (f : ℕ × K → ℕ × K) → ((p : ℕ × K) → (f p).0 ≡ p.0) → (xs : List (ℕ × K)) → actors_of (map f xs) ≡ actors_of xs
  actors_kept f same [] = refl
  actors_kept f same (x ∷ xs) = ap (λ k. k ∷ actors_of (map f xs)) (same x) ∙ ap (λ l. x.0 ∷ l) (actors_kept f same xs)

  pub actors_length : (xs : List (ℕ × K)) (a n : ℕ) → actors_of xs ≡ from_up a n → length xs ≡ n
  actors_length [] a zero e = refl
  actors_length [] a (suc n) e = absurd (not_empty a (from_up (suc a) n) (sym e))
  actors_length (x ∷ xs) a zero e = absurd (not_empty x.0 (actors_of xs) e)
  actors_length (x ∷ xs) a (suc n) e = let h = actors_length xs (suc a) n (same_rest x.0 a (actors_of xs) (from_up (suc a) n) e) in omega (arith, h)

  -- something is kept for each of them
  pub actors_have : (xs : List (ℕ × K)) (a n b : ℕ) → actors_of xs ≡ from_up a n → a ≤ b → b < a + n → (k : K) × Has xs b k
  actors_have [] a zero b e le lt = absurd (omega (arith, le, lt))
  actors_have [] a (suc n) b e le lt = absurd (not_empty a (from_up (suc a) n) (sym e))
  actors_have (x ∷ xs) a zero b e le lt = absurd (not_empty x.0 (actors_of xs) e)
  actors_have (x ∷ xs) a (suc n) b e le lt = elim (ℕ_discrete b a) [
    | yes is ↦ (x.1, (0, ap (λ z. some (z, x.1)) (same_head x.0 a (actors_of xs) (from_up (suc a) n) e ∙ sym is)))
    | no ne ↦ let h = actors_have xs (suc a) n b (same_rest x.0 a (actors_of xs) (from_up (suc a) n) e) (omega (arith, le, ne)) (omega (arith, lt)) in (h.0, (suc h.1.0, h.1.1))
  ]
