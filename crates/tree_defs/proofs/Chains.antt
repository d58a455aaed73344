-- In a row of siblings no block stands twice.
use Rattle.std.proofs.Common.{◌≡◌, ℕ, zero, suc, ◌+◌, ◌<◌, ◌≤◌, Bool, true, false, List, [], ◌∷◌, refl, sym, ◌∙◌, ap, subst, arith}
use Rattle.std.specs.Prelude.{◌==◌, if◌then◌else◌}
use Rattle.std.proofs.lemmas.Bool.{eqb-true}
use Rattle.tree_defs.specs.Levels.{IsChain}
use Rattle.sblock.specs.Headers.{no_block, left_of, right_of}
use Rattle.tree_defs.specs.Lists.{times}
use Rattle.tree_defs.proofs.Counts.{AllBetween}

module _ (m : ℕ → List ℕ) where
  -- the block is so many steps to the left away from the end of its row
  abbrev IsAt : ℕ → ℕ → Type 0
  IsAt zero b = left_of (m b) ≡ no_block
  IsAt (suc n) b = (left_of (m b) ≡ no_block → ⊥) × IsAt n (left_of (m b))

  one_place : (i j b : ℕ) → IsAt i b → IsAt j b → i ≡ j
  one_place zero zero b p q = refl
  one_place zero (suc j) b p q = absurd (q.0 p)
  one_place (suc i) zero b p q = absurd (p.0 q)
  one_place (suc i) (suc j) b p q = ap suc (one_place i j (left_of (m b)) p.1 q.1)

  -- what comes behind this block is n steps away
  abbrev LeadsTo : ℕ → ℕ → Type 0
  LeadsTo zero before = before ≡ no_block
  LeadsTo (suc n) before = (before ≡ no_block → ⊥) × IsAt n before

  is_next : (n before p : ℕ) → left_of (m p) ≡ before → LeadsTo n before → IsAt n p
  is_next zero before p e h = e ∙ h
  is_next (suc n) before p e h = (λ z. h.0 (sym e ∙ z), subst (IsAt n) (sym e) h.1)

  not_none : (p : ℕ) → p < no_block → p ≡ no_block → ⊥
  not_none p lt e = omega (arith, lt, e)

  -- a block of a row behind that one is n steps away, or more
  abbrev IsLater : ℕ → ℕ → Type 0
  IsLater n b = (k : ℕ) × (n ≤ k) × IsAt k b

  first_or_rest : (c : Bool) (n p : ℕ) (rest b : ℕ) → (p == b) ≡ c → IsAt n p → 1 ≤ (if c then 1 else 0) + rest → (1 ≤ rest → IsLater (n + 1) b) → IsLater n b
  first_or_rest true n p rest b e here some behind = (n, omega arith, subst (IsAt n) (eqb-true p b e) here)
  first_or_rest false n p rest b e here some behind =
      let later = behind (omega (arith, some)) in
      (later.0, omega (arith, later.1), later.2)

  module _ (len : ℕ) (short : len ≤ no_block) where
    each_later : (n before next : ℕ) (ps : List ℕ) → IsChain m before next ps → LeadsTo n before → AllBetween len ps → (b : ℕ) → 1 ≤ times b ps → IsLater n b
    each_later n before next [] chain leads between b some = absurd (omega (arith, some))
    each_later n before next (p ∷ ps) chain leads between b some =
        let here : IsAt n p = is_next n before p chain.0 leads in
        let e : n + 1 ≡ suc n = omega arith in
        first_or_rest (p == b) n p (times b ps) b refl here some
        (λ rest. subst (λ (k : ℕ). IsLater k b) (sym e) (each_later (suc n) p (right_of (m p)) ps chain.2 (not_none p (omega (arith, between.1, short)), here) between.2 b rest))

    none_left : (n : ℕ) → (1 ≤ n → ⊥) → n ≡ 0
    none_left zero h = refl
    none_left (suc n) h = absurd (h (omega arith))

    by_first : (c : Bool) (n p rest b : ℕ) → (p == b) ≡ c → IsAt n p → (1 ≤ rest → IsLater (suc n) b) → rest ≤ 1 → (if c then 1 else 0) + rest ≤ 1
    by_first true n p rest b e here behind le =
        let same : IsAt n b = subst (IsAt n) (eqb-true p b e) here in
        let none : rest ≡ 0 = none_left rest (λ some. let later = behind some in let k : n ≡ later.0 = one_place n later.0 b same later.2 in omega (arith, k, later.1)) in
        omega (arith, none)
    by_first false n p rest b e here behind le = omega (arith, le)

    -- none stands there twice
    pub stands_once : (n before next : ℕ) (ps : List ℕ) → IsChain m before next ps → LeadsTo n before → AllBetween len ps → (b : ℕ) → times b ps ≤ 1
    stands_once n before next [] chain leads between b = omega arith
    stands_once n before next (p ∷ ps) chain leads between b =
        let here : IsAt n p = is_next n before p chain.0 leads in
        let on : LeadsTo (suc n) p = (not_none p (omega (arith, between.1, short)), here) in
        by_first (p == b) n p (times b ps) b refl here
        (λ some. each_later (suc n) p (right_of (m p)) ps chain.2 on between.2 b some)
        (stands_once (suc n) p (right_of (m p)) ps chain.2 on between.2 b)
