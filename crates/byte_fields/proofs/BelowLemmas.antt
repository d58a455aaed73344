-- A test of each number below another, as a loop makes it.
use Rattle.std.proofs.Common.{◌≡◌, ℕ, zero, suc, ◌+◌, ◌<◌, Bool, true, false, inl, inr, refl, arith, add-one}
use Rattle.std.specs.Prelude.{◌&&◌}
use Rattle.std.proofs.lemmas.Bool.{cases_lt, and_parts}
use Rattle.byte_fields.specs.Below.{all_below}

and_false : (b : Bool) → (b && false) ≡ false
and_false true = refl
and_false false = refl

pub one_fails : (p : ℕ → Bool) (n i : ℕ) → i < n → p i ≡ false → all_below n p ≡ false
unfolding all_below
one_fails p zero i lt f = absurd (omega arith)
one_fails p (suc n) i lt f =
    elim (cases_lt i n) [
      | inl below ↦ rw (one_fails p n i below f) refl
      | inr above ↦ let e : n ≡ i = omega arith in rw (e, f) (and_false (all_below i p))
    ]

pub one_more_passes : (p : ℕ → Bool) (i : ℕ) → all_below i p ≡ true → p i ≡ true → all_below (i + 1) p ≡ true
unfolding all_below
one_more_passes p i h t = rw add-one (rw (h, t) refl)

pub none_below : (p : ℕ → Bool) → all_below 0 p ≡ true
unfolding all_below
none_below p = refl

pub each_below : (p : ℕ → Bool) (n i : ℕ) → all_below n p ≡ true → i < n → p i ≡ true
unfolding all_below
each_below p zero i h lt = absurd (omega arith)
each_below p (suc n) i h lt =
    let parts = and_parts (all_below n p) (p n) h in
    elim (cases_lt i n) [
      | inl below ↦ each_below p n i parts.0 below
      | inr above ↦ let e : i ≡ n = omega arith in rw e parts.1
    ]
