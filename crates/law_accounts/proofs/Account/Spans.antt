-- Numbers in a span.
use Rattle.std.specs.Prelude.{ℕ, Bool, true, false, ◌≡◌, ◌&&◌, ◌+◌, ◌<◌, ◌≤◌, ◌⊎◌, nat_le, nat_lt, refl}
use Rattle.std.proofs.Common.{sym, inl, inr, ◌∙◌, arith}
use Rattle.std.proofs.lemmas.Bool.{true≢false, cases_order}
use Rattle.std.proofs.lemmas.Bool.Decides.{nat_tests}
use Rattle.law_accounts.specs.Account.Accounts.{in_span}

pub and_left : (p q : Bool) → (p && q) ≡ true → p ≡ true
and_left true q h = refl
and_left false q h = h

pub and_right : (p q : Bool) → (p && q) ≡ true → q ≡ true
and_right true q h = h
and_right false q h = absurd (true≢false (sym h))

pub span_in : (s n x : ℕ) → s ≤ x → x < s + n → in_span s n x ≡ true
span_in s n x le lt =
    let l : nat_le s x ≡ true = grind (arith, nat_tests) in
    let m : nat_lt x (s + n) ≡ true = grind (arith, nat_tests) in
    rw (l, m) refl

pub span_out : (s n x : ℕ) → in_span s n x ≡ true → (s ≤ x) × (x < s + n)
span_out s n x h =
    let l : nat_le s x ≡ true = and_left (nat_le s x) (nat_lt x (s + n)) h in
    let m : nat_lt x (s + n) ≡ true = and_right (nat_le s x) (nat_lt x (s + n)) h in
    (grind (arith, nat_tests, l), grind (arith, nat_tests, m))

pub no_true : (b : Bool) → (b ≡ true → ⊥) → b ≡ false
no_true true f = absurd (f refl)
no_true false f = refl

-- it lies outside
pub span_not : (s n x : ℕ) → (s ≤ x → x < s + n → ⊥) → in_span s n x ≡ false
span_not s n x f = no_true (in_span s n x) (λ e. let o = span_out s n x e in f o.0 o.1)

-- inside, before or behind
pub span_case : (s n x : ℕ) → in_span s n x ≡ false → (x < s) ⊎ (s + n ≤ x)
span_case s n x h = elim (cases_order x s) [
  | inr (inl lt) ↦ inl lt
  | inl is ↦ at (omega (arith, is))
  | inr (inr gt) ↦ at (omega (arith, gt))
]
  where
    at : s ≤ x → (x < s) ⊎ (s + n ≤ x)
    at le = elim (cases_order x (s + n)) [
      | inl is ↦ inr (omega (arith, is))
      | inr (inl lt) ↦ absurd (true≢false (sym (span_in s n x le lt) ∙ h))
      | inr (inr gt) ↦ inr (omega (arith, gt))
    ]
