-- How sets of blocks grow, one addition after the other.
use Rattle.std.proofs.Common.{◌≡◌, ℕ, ◌+◌, ◌<◌, ◌⊎◌, Bool, ◌||◌, sym, ◌∙◌, ap, inl, inr, arith}
use Rattle.std.specs.Prelude.{◌==◌}
use Rattle.std.proofs.lemmas.Bool.{or_cases, or_left, or_right, eqb-true, eq-eqb, cases_lt}
use Rattle.tree_claims.specs.Looks.{Grows, LieBelow}

-- nothing was added
pub grows_not : (p : ℕ → Bool) (A : ℕ → Type 0) → ((b : ℕ) → A b → ⊥) → Grows p p A
grows_not p A none b = (λ h. inl h, λ h. elim h [ inl old ↦ old | inr a ↦ absurd (none b a) ])

-- one addition after the other
pub grows_on : (p q r : ℕ → Bool) (A B C : ℕ → Type 0) → Grows p q A → Grows q r B → ((b : ℕ) → A b → C b) → ((b : ℕ) → B b → C b) → ((b : ℕ) → C b → A b ⊎ B b) → Grows p r C
grows_on p q r A B C first second is_a is_b parts b = (
  λ h. elim ((second b).0 h) [
    | inl before ↦ elim ((first b).0 before) [ inl old ↦ inl old | inr a ↦ inr (is_a b a) ]
    | inr added ↦ inr (is_b b added)
  ],
  λ h. elim h [
    | inl old ↦ (second b).1 (inl ((first b).1 (inl old)))
    | inr c ↦ elim (parts b c) [
      | inl a ↦ (second b).1 (inl ((first b).1 (inr a)))
      | inr added ↦ (second b).1 (inr added)
    ]
  ],
)

-- the same blocks added, said otherwise
pub grows_as : (p q : ℕ → Bool) (A B : ℕ → Type 0) → Grows p q A → ((b : ℕ) → A b → B b) → ((b : ℕ) → B b → A b) → Grows p q B
grows_as p q A B h to from b = (
  λ now. elim ((h b).0 now) [ inl old ↦ inl old | inr a ↦ inr (to b a) ],
  λ now. elim now [ inl old ↦ (h b).1 (inl old) | inr added ↦ (h b).1 (inr (from b added)) ],
)

-- one block was put in
pub grows_by : (p q : ℕ → Bool) (block : ℕ) → ((b : ℕ) → q b ≡ (p b || (b == block))) → Grows p q (λ b. block ≡ b)
grows_by p q block h b = (
  λ now. elim (or_cases (p b) (b == block) (sym (h b) ∙ now)) [
    | inl old ↦ inl old
    | inr is ↦ inr (sym (eqb-true b block is))
  ],
  λ now. elim now [
    | inl old ↦ h b ∙ or_left (p b) (b == block) old
    | inr is ↦ h b ∙ or_right (p b) (b == block) (eq-eqb b block (sym is))
  ],
)

-- one more item of a list was put in
abbrev pub Among : (ℕ → ℕ) → ℕ → ℕ → Type 0
Among item n b = (i : ℕ) × (i < n) × (item i ≡ b)

pub one_item_more : (p q r : ℕ → Bool) (item : ℕ → ℕ) (n block : ℕ) → block ≡ item n → Grows p q (Among item n) → ((b : ℕ) → r b ≡ (q b || (b == block))) → Grows p r (Among item (n + 1))
one_item_more p q r item n block is before put =
    grows_on p q r (Among item n) (λ b. block ≡ b) (Among item (n + 1)) before (grows_by q r block put)
    (λ b a. (a.0, omega (arith, a.1), a.2))
    (λ b e. (n, omega arith, sym is ∙ e))
    (λ b c. elim (cases_lt c.0 n) [
      | inl lt ↦ inl (c.0, lt, c.2)
      | inr ge ↦ let here : c.0 ≡ n = omega (arith, ge, c.1) in inr (is ∙ (ap item (sym here) ∙ c.2))
    ])

pub no_item : (p : ℕ → Bool) (item : ℕ → ℕ) → Grows p p (Among item 0)
no_item p item = grows_not p (Among item 0) (λ b a. omega (arith, a.1))

-- what was added lies below the length too
pub lie_on : (len : ℕ) (p q : ℕ → Bool) (A : ℕ → Type 0) → Grows p q A → ((b : ℕ) → A b → b < len) → LieBelow len p → LieBelow len q
lie_on len p q A h below before b now = elim ((h b).0 now) [ inl old ↦ before b old | inr a ↦ below b a ]
