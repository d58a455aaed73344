-- Blocks that move between some parts.
use Rattle.std.proofs.Common.{◌≡◌, ℕ, ◌+◌, ◌≤◌, List, [], ◌∷◌, ◌++◌, refl, sym, ◌∙◌, inl, inr, arith}
use Rattle.std.specs.Prelude.{◌⊎◌, ◌==◌, if◌then◌else◌}
use Rattle.std.proofs.lemmas.Bool.{eqb-true, eq-eqb, cases_Bool}
use Rattle.tree_defs.specs.Lists.{times}
use Rattle.fs_state.specs.Apart.{Part, In}
use Rattle.fs_state.specs.Pool.{Share, total, ShareOf}

pub times_append : (p : ℕ) (xs ys : List ℕ) → times p (xs ++ ys) ≡ times p xs + times p ys
times_append p [] ys = omega arith
times_append p (x ∷ xs) ys = let h = times_append p xs ys in omega (arith, h)

one_at : (q p : ℕ) → q ≡ p → ◌≡◌ {A = ℕ} (if q == p then 1 else 0) 1
one_at q p e = rw (eq-eqb q p e) refl

pub in_times : (p : ℕ) (xs : List ℕ) → In p xs → 1 ≤ times p xs
in_times p [] h = absurd h
in_times p (x ∷ xs) (inl e) = let o = one_at x p e in omega (arith, o)
in_times p (x ∷ xs) (inr h) = let t = in_times p xs h in omega (arith, t)

pub times_in : (p : ℕ) (xs : List ℕ) → 1 ≤ times p xs → In p xs
times_in p [] h = absurd (omega (arith, h))
times_in p (x ∷ xs) h =
    elim (cases_Bool (x == p)) [
      | inl same ↦ inl (eqb-true x p same)
      | inr other ↦ let z : ◌≡◌ {A = ℕ} (if x == p then 1 else 0) 0 = rw other refl in inr (times_in p xs (omega (arith, h, z)))
    ]

pub share_in : (ss : List Share) (c : Part) (p : ℕ) → ShareOf ss c p → 1 ≤ times p (total ss)
share_in [] c p h = absurd h
share_in (s ∷ ss) c p (inl h) = let a = times_append p s.1 (total ss) in let t = in_times p s.1 h.1 in omega (arith, a, t)
share_in (s ∷ ss) c p (inr h) = let a = times_append p s.1 (total ss) in let t = share_in ss c p h in omega (arith, a, t)

-- a block in two shares is there twice
pub one_share : (ss : List Share) (p : ℕ) → times p (total ss) ≤ 1 → (c e : Part) → ShareOf ss c p → ShareOf ss e p → c ≡ e
one_share [] p once c e h i = absurd h
one_share (s ∷ ss) p once c e (inl h) (inl i) = sym h.0 ∙ i.0
one_share (s ∷ ss) p once c e (inl h) (inr i) =
    let a = times_append p s.1 (total ss) in let t = in_times p s.1 h.1 in let u = share_in ss e p i in absurd (omega (arith, a, t, u, once))
one_share (s ∷ ss) p once c e (inr h) (inl i) =
    let a = times_append p s.1 (total ss) in let t = in_times p s.1 i.1 in let u = share_in ss c p h in absurd (omega (arith, a, t, u, once))
one_share (s ∷ ss) p once c e (inr h) (inr i) =
    let a = times_append p s.1 (total ss) in one_share ss p (omega (arith, a, once)) c e h i

pub in_cases : (p : ℕ) (xs ys : List ℕ) → In p (xs ++ ys) → In p xs ⊎ In p ys
in_cases p [] ys h = inr h
in_cases p (x ∷ xs) ys (inl e) = inl (inl e)
in_cases p (x ∷ xs) ys (inr h) = elim (in_cases p xs ys h) [ inl i ↦ inl (inr i) | inr i ↦ inr i ]

-- a block in the pool is in the share of a part
pub share_from : (ss : List Share) (p : ℕ) → In p (total ss) → (c : Part) × ShareOf ss c p
share_from [] p h = absurd h
share_from (s ∷ ss) p h =
    elim (in_cases p s.1 (total ss) h) [
      | inl i ↦ (s.0, inl (refl, i))
      | inr i ↦ let r = share_from ss p i in (r.0, inr r.1)
    ]
