-- How many elements of a list pass a test, in whatever order they stand.
use Rattle.std.proofs.Common.{◌≡◌, ℕ, ◌+◌, ◌<◌, ◌≤◌, Bool, true, false, cond, List, [], ◌∷◌, length, map, refl, ap, sym, ◌∙◌, arith}
use Rattle.std.specs.Prelude.{◌&&◌, ◌||◌}
use Rattle.std.specs.List.{filter, list_any}
use Rattle.std.specs.List.Sorted.{IsPermutation}
use Rattle.std.proofs.lemmas.List.Recursion.{is_count_by}
use Rattle.std.proofs.lemmas.List.Sorted.{sum_by-IsPermutation}

abbrev pub many : {X : Type 0} → (X → Bool) → List X → ℕ
many p [] = 0
many p (x ∷ xs) = cond (p x) (1 + many p xs) (many p xs)

-- both lists have the same elements, each as often
abbrev pub Same : {X : Type 0} → List X → List X → Type 0
Same {X} xs ys = (p : X → Bool) → many p xs ≡ many p ys

pub permuted : {X : Type 0} (xs ys : List X) → IsPermutation xs ys → Same xs ys
permuted xs ys h = λ p.
    is_count_by (many p) p refl (λ x zs. refl) xs ∙ sym (sum_by-IsPermutation (λ x. cond {A = ℕ} (p x) 1 0) xs ys h) ∙ sym (is_count_by (many p) p refl (λ x zs. refl) ys)

pub many_filter : {X : Type 0} (p t : X → Bool) (xs : List X) → many p (filter t xs) ≡ many (λ x. t x && p x) xs
many_filter p t [] = refl
many_filter p t (x ∷ xs) = elim (t x) as (λ b. many p (cond b (x ∷ filter t xs) (filter t xs)) ≡ cond (b && p x) (1 + many (λ y. t y && p y) xs) (many (λ y. t y && p y) xs)) [
  | true ↦ ap (λ (n : ℕ). cond (p x) (1 + n) n) (many_filter p t xs)
  | false ↦ many_filter p t xs
]

pub many_map : {X Y : Type 0} (f : X → Y) (p : Y → Bool) (xs : List X) → many p (map f xs) ≡ many (λ x. p (f x)) xs
many_map f p [] = refl
many_map f p (x ∷ xs) = ap (λ (n : ℕ). cond (p (f x)) (1 + n) n) (many_map f p xs)

pub many_same : {X : Type 0} (p q : X → Bool) → ((x : X) → p x ≡ q x) → (xs : List X) → many p xs ≡ many q xs
many_same p q e [] = refl
many_same p q e (x ∷ xs) =
    ap (λ (b : Bool). cond b (1 + many p xs) (many p xs)) (e x) ∙ ap (λ (n : ℕ). cond (q x) (1 + n) n) (many_same p q e xs)

pub many_all : {X : Type 0} (xs : List X) → many (λ x. true) xs ≡ length xs
many_all [] = refl
many_all (x ∷ xs) = let rest = many_all xs in omega (arith, rest)

pub many_both : {X : Type 0} (q p : X → Bool) (xs : List X) → many (λ x. q x && p x) xs ≤ many q xs
many_both q p [] = omega arith
many_both q p (x ∷ xs) =
    let rest = many_both q p xs in
    bounded (q x) (p x) (many (λ y. q y && p y) xs) (many q xs) rest
  where
    bounded : (a b : Bool) (m n : ℕ) → m ≤ n → cond (a && b) (1 + m) m ≤ cond a (1 + n) n
    bounded true true m n h = omega (arith, h)
    bounded true false m n h = omega (arith, h)
    bounded false b m n h = h

pub any_none : {X : Type 0} (p : X → Bool) (xs : List X) → many p xs ≡ 0 → list_any p xs ≡ false
any_none p [] h = refl
any_none p (x ∷ xs) h = (elim (p x) as (λ b. cond b (1 + many p xs) (many p xs) ≡ 0 → (b || list_any p xs) ≡ false) [
  | true ↦ λ k. absurd (omega (arith, k))
  | false ↦ λ k. any_none p xs k
]) h

pub any_some : {X : Type 0} (p : X → Bool) (xs : List X) → 0 < many p xs → list_any p xs ≡ true
any_some p [] h = absurd (omega (arith, h))
any_some p (x ∷ xs) h = (elim (p x) as (λ b. 0 < cond b (1 + many p xs) (many p xs) → (b || list_any p xs) ≡ true) [
  | true ↦ λ k. refl
  | false ↦ λ k. any_some p xs k
]) h
