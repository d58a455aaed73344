-- Items by their numbers.
use Rattle.std.proofs.Common.{◌≡◌, ℕ, zero, suc, ◌+◌, ◌<◌, ◌≤◌, List, [], ◌∷◌, Bool, true, false, refl, ap, subst, sym, ◌∙◌, inl, inr, arith}
use Rattle.std.specs.Prelude.{◌⊎◌, ◌==◌, nat_lt}
use Rattle.std.proofs.lemmas.Bool.{eqb-true}
use Rattle.std.proofs.lemmas.Bool.Decides.{nat_tests}
use Rattle.sblock.specs.Area.{area_of}
use Rattle.sblock.specs.Blocks.{numrecs, records_of}
use Rattle.sblock.specs.Form.{Form}
use Rattle.sblock.specs.Lists.{items_from}

pub items_same : {A : Type 0} (f g : ℕ → A) (n i j : ℕ) → ((k : ℕ) → k < n → f (i + k) ≡ g (j + k)) → items_from f n i ≡ items_from g n j
items_same f g zero i j h = refl
items_same {A} f g (suc n) i j h =
    let a : i + 0 ≡ i = omega arith in
    let b : j + 0 ≡ j = omega arith in
    let first : f i ≡ g j = ap f (sym a) ∙ (h 0 (omega arith) ∙ ap g b) in
    let rest : items_from f n (i + 1) ≡ items_from g n (j + 1) = items_same f g n (i + 1) (j + 1) (λ k lt.
    let c : (i + 1) + k ≡ i + suc k = omega arith in
    let d : (j + 1) + k ≡ j + suc k = omega arith in
    ap f c ∙ (h (suc k) (omega (arith, lt)) ∙ ap g (sym d))) in
    ap (λ (x : A). x ∷ items_from f n (i + 1)) first ∙ ap (λ (xs : List A). g j ∷ xs) rest

same : (a : ℕ) → (a == a) ≡ true
same a = grind (arith, nat_tests)

by_test : (c : Bool) (a b : ℕ) → (a == b) ≡ c → (a ≡ b) ⊎ (a ≡ b → ⊥)
by_test true a b e = inl (eqb-true a b e)
by_test false a b e = inr (λ is. let t : (a == b) ≡ true = subst (λ (x : ℕ). (a == x) ≡ true) is (same a) in let z : true ≡ false = sym t ∙ e in absurd cc)

decide : (a b : ℕ) → (a ≡ b) ⊎ (a ≡ b → ⊥)
decide a b = by_test (a == b) a b refl

by_order : (c : Bool) (k i : ℕ) → nat_lt k i ≡ c → k < i + 1 → (k ≡ i → ⊥) → k < i
by_order true k i e lt other = grind (arith, nat_tests)
by_order false k i e lt other = let ge : i ≤ k = grind (arith, nat_tests) in absurd (other (omega (arith, lt, ge)))

below : (k i : ℕ) → k < i + 1 → (k ≡ i → ⊥) → k < i
below k i lt other = by_order (nat_lt k i) k i refl lt other

-- one more item was put in behind the first ones
pub one_more : {A : Type 0} (old new want : ℕ → A) (i most : ℕ) → i < most → ((j : ℕ) → j < most → (j ≡ i → ⊥) → new j ≡ old j) → new i ≡ want i → ((k : ℕ) → k < i → old k ≡ want k) → (k : ℕ) → k < i + 1 → new k ≡ want k
one_more old new want i most in_room others taken before k lt =
    elim (decide k i) [
      | inl is ↦ ap new is ∙ (taken ∙ ap want (sym is))
      | inr other ↦ others k (omega (arith, lt, in_room)) other ∙ before k (below k i lt other)
    ]

pub records_are : {R K : Type 0} (form : Form R K) (bytes area : List ℕ) (n from : ℕ) (item : ℕ → R) → area_of bytes ≡ area → numrecs bytes ≡ n → ((k : ℕ) → k < n → form.record_at area k ≡ item (from + k)) → records_of form bytes ≡ items_from item n from
unfolding records_of
records_are form bytes area n from item e f h =
    rw (e, f) (items_same (form.record_at area) item n 0 from (λ k lt. let z : 0 + k ≡ k = omega arith in ap (form.record_at area) z ∙ h k lt))

-- one more holds, and those before still do
pub all_more : (old new : ℕ → Type 0) (i : ℕ) → new i → ((k : ℕ) → k < i → old k) → ((k : ℕ) → k < i → old k → new k) → (k : ℕ) → k < i + 1 → new k
all_more old new i here before stays k lt =
    elim (decide k i) [
      | inl is ↦ subst new (sym is) here
      | inr other ↦ let b : k < i = below k i lt other in stays k b (before k b)
    ]

pub less_differs : (k i : ℕ) → k < i → k ≡ i → ⊥
less_differs k i lt is = absurd (omega (arith, lt, is))
