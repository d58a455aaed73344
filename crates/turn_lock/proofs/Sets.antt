-- Views, one of which changes.
use Rattle.std.proofs.Common.{◌≡◌, ℕ, ◌+◌, ◌≤◌, ◌<◌, ◌%◌, ◌^◌, zero, suc, List, [], ◌∷◌, ◌++◌, refl, sym, ap, ◌∙◌, subst, inl, inr, arith, map, length, append_assoc, lt_of_not-le}
use Rattle.std.proofs.lemmas.List.{append-nil}
use native.Mathlib.Decide.{dec_le}
use Rattle.std.specs.Prelude.{◌≢◌, ◌⊎◌, slice_set}
use mathlib.Core.Option.{some, some-injective, some-ne-none}
use lib.ListN.{get_elem?}
use Rattle.atomic_table.proofs.Lists.{at_set}
use Rattle.turn_lock.specs.Lists.{total, Has, Begins, below, above, skip_if, keep_if}

pub within : {A : Type 0} (xs : List A) (i : ℕ) (a : A) → get_elem? xs i ≡ some a → i < length xs
within [] i a e = absurd (some-ne-none a (sym e))
within (x ∷ xs) zero a e = omega arith
within (x ∷ xs) (suc i) a e = let h = within xs i a e in omega (arith, h)

pub all_set : {A : Type 0} (P : ℕ → A → Type 0) (xs : List A) (id : ℕ) (w : A) → P id w → ((j : ℕ) (u : A) → j ≢ id → get_elem? xs j ≡ some u → P j u) → (j : ℕ) (u : A) → get_elem? (slice_set xs id w) j ≡ some u → P j u
all_set P xs id w here others j u at = elim (at_set xs id j w u at) [
  | inl e ↦ subst (λ n. P n u) (sym e.0) (subst (λ z. P id z) e.1 here)
  | inr e ↦ others j u e.0 e.1
]

-- a fact of each two
pub pairs_set : {A : Type 0} (P : A → A → Type 0) (xs : List A) (id : ℕ) (w : A)
    → ((j : ℕ) (u : A) → j ≢ id → get_elem? xs j ≡ some u → P w u × P u w)
    → ((i j : ℕ) (u q : A) → i ≢ id → j ≢ id → i ≢ j → get_elem? xs i ≡ some u → get_elem? xs j ≡ some q → P u q)
    → (i j : ℕ) (u q : A) → i ≢ j → get_elem? (slice_set xs id w) i ≡ some u → get_elem? (slice_set xs id w) j ≡ some q → P u q
pairs_set P xs id w here others i j u q ne a b = elim (at_set xs id i w u a) [
  | inl e ↦ elim (at_set xs id j w q b) [
    | inl f ↦ absurd (ne (e.0 ∙ sym f.0))
    | inr f ↦ subst (λ z. P z q) e.1 (here j q f.0 f.1).0
  ]
  | inr e ↦ elim (at_set xs id j w q b) [
    | inl f ↦ subst (λ z. P u z) f.1 (here i u e.0 e.1).1
    | inr f ↦ others i j u q e.0 f.0 ne e.1 f.1
  ]
]

pub total_set : {A : Type 0} (f : A → ℕ) (xs : List A) (id : ℕ) (v w : A) → get_elem? xs id ≡ some v → total f (slice_set xs id w) + f v ≡ total f xs + f w
total_set f [] id v w at = absurd (some-ne-none v (sym at))
total_set f (x ∷ xs) zero v w at = let e : f x ≡ f v = ap f (some-injective x v at) in let t : ℕ = total f xs in omega (arith, e)
total_set f (x ∷ xs) (suc id) v w at = let h = total_set f xs id v w at in let a : ℕ = total f xs in let b : ℕ = total f (slice_set xs id w) in omega (arith, h)

pub total_le : {A : Type 0} (f g : A → ℕ) (xs : List A) → ((i : ℕ) (v : A) → get_elem? xs i ≡ some v → f v ≤ g v) → total f xs ≤ total g xs
total_le f g [] h = omega arith
total_le f g (x ∷ xs) h = let a = h 0 x refl in let b = total_le f g xs (λ i v at. h (suc i) v at) in omega (arith, a, b)

pub total_snoc : {A : Type 0} (f : A → ℕ) (xs : List A) (w : A) → total f (xs ++ w ∷ []) ≡ total f xs + f w
total_snoc f [] w = omega arith
total_snoc f (x ∷ xs) w = let h = total_snoc f xs w in omega (arith, h)

pub at_map_back : {A B : Type 0} (f : A → B) (xs : List A) (m : ℕ) (b : B) → get_elem? (map f xs) m ≡ some b → (a : A) × (get_elem? xs m ≡ some a) × (f a ≡ b)
at_map_back f [] m b e = absurd (some-ne-none b (sym e))
at_map_back f (x ∷ xs) zero b e = (x, refl, some-injective (f x) b e)
at_map_back f (x ∷ xs) (suc m) b e = at_map_back f xs m b e

pub next_mod : (n : ℕ) → (n % 2 ^ 64 + 1) % 2 ^ 64 ≡ (n + 1) % 2 ^ 64
next_mod n = omega arith

pub begins_same : {A : Type 0} (xs : List A) → Begins xs xs
begins_same xs = ([], append-nil xs)

pub begins_trans : {A : Type 0} (xs ys zs : List A) → Begins xs ys → Begins ys zs → Begins xs zs
begins_trans xs ys zs a b = (a.0 ++ b.0, sym (append_assoc xs a.0 b.0) ∙ (ap (λ l. l ++ b.0) a.1 ∙ b.1))

-- with the place, where it is the last
pub snoc_at : {A : Type 0} (l : List A) (a b : A) (j : ℕ) → get_elem? (l ++ a ∷ []) j ≡ some b → (get_elem? l j ≡ some b) ⊎ ((j ≡ length l) × (a ≡ b))
snoc_at [] a b zero e = inr (refl, some-injective a b e)
snoc_at [] a b (suc j) e = absurd (some-ne-none b (sym e))
snoc_at (x ∷ xs) a b zero e = inl e
snoc_at (x ∷ xs) a b (suc j) e = elim (snoc_at xs a b j e) [
  | inl h ↦ inl h
  | inr h ↦ inr (ap suc h.0, h.1)
]

module _ {K : Type 0} where
  pub has_more : (x : ℕ × K) (xs : List (ℕ × K)) (a : ℕ) (k : K) → Has xs a k → Has (x ∷ xs) a k
  has_more x xs a k h = (suc h.0, h.1)

  has_cons : (x : ℕ × K) (xs : List (ℕ × K)) (a : ℕ) (k : K) → Has (x ∷ xs) a k → (x ≡ (a, k)) ⊎ Has xs a k
  has_cons x xs a k (zero, e) = inl (some-injective x (a, k) e)
  has_cons x xs a k (suc m, e) = inr (m, e)

  below_at : (n : ℕ) (p : ℕ × K) (xs : List (ℕ × K)) (a : ℕ) (k : K) → (Has (below n xs) a k → Has xs a k × (a < n)) → (d : Dec (n ≤ p.0)) → Has (skip_if d p (below n xs)) a k → Has (p ∷ xs) a k × (a < n)
  below_at n p xs a k ih (yes le) h = let r = ih h in (has_more p xs a k r.0, r.1)
  below_at n p xs a k ih (no gt) h = elim (has_cons p (below n xs) a k h) [
    | inl e ↦ ((0, ap some e), (let f : p.0 ≡ a = ap (λ q. q.0) e in let l = lt_of_not-le gt in omega (arith, f, l)))
    | inr g ↦ let r = ih g in (has_more p xs a k r.0, r.1)
  ]

  pub below_has : (n : ℕ) (xs : List (ℕ × K)) (a : ℕ) (k : K) → Has (below n xs) a k → Has xs a k × (a < n)
  below_has n [] a k h = absurd (some-ne-none (a, k) (sym h.1))
  below_has n (p ∷ xs) a k h = below_at n p xs a k (below_has n xs a k) (dec_le n p.0) h

  above_at : (n : ℕ) (p : ℕ × K) (xs : List (ℕ × K)) (a : ℕ) (k : K) → (Has (above n xs) a k → Has xs a k × (n ≤ a)) → (d : Dec (n ≤ p.0)) → Has (keep_if d p (above n xs)) a k → Has (p ∷ xs) a k × (n ≤ a)
  above_at n p xs a k ih (no gt) h = let r = ih h in (has_more p xs a k r.0, r.1)
  above_at n p xs a k ih (yes le) h = elim (has_cons p (above n xs) a k h) [
    | inl e ↦ ((0, ap some e), (let f : p.0 ≡ a = ap (λ q. q.0) e in omega (arith, f, le)))
    | inr g ↦ let r = ih g in (has_more p xs a k r.0, r.1)
  ]

  pub above_has : (n : ℕ) (xs : List (ℕ × K)) (a : ℕ) (k : K) → Has (above n xs) a k → Has xs a k × (n ≤ a)
  above_has n [] a k h = absurd (some-ne-none (a, k) (sym h.1))
  above_has n (p ∷ xs) a k h = above_at n p xs a k (above_has n xs a k) (dec_le n p.0) h

  cut_at : (n : ℕ) (p : ℕ × K) (xs : List (ℕ × K)) → length (below n xs) + length (above n xs) ≡ length xs → (d : Dec (n ≤ p.0)) → length (skip_if d p (below n xs)) + length (keep_if d p (above n xs)) ≡ length (p ∷ xs)
  cut_at n p xs h (yes le) = omega (arith, h)
  cut_at n p xs h (no gt) = omega (arith, h)

  pub cut_length : (n : ℕ) (xs : List (ℕ × K)) → length (below n xs) + length (above n xs) ≡ length xs
  cut_length n [] = omega arith
  cut_length n (p ∷ xs) = cut_at n p xs (cut_length n xs) (dec_le n p.0)

  pub has_append : (xs ys : List (ℕ × K)) (a : ℕ) (k : K) → Has (xs ++ ys) a k → Has xs a k ⊎ Has ys a k
  has_append [] ys a k h = inr h
  has_append (x ∷ xs) ys a k h = elim (has_cons x (xs ++ ys) a k h) [
    | inl e ↦ inl (0, ap some e)
    | inr g ↦ elim (has_append xs ys a k g) [
      | inl r ↦ inl (has_more x xs a k r)
      | inr r ↦ inr r
    ]
  ]

pub all_snoc : {A : Type 0} (P : A → Type 0) (l : List A) (r : A) → ((j : ℕ) (u : A) → get_elem? l j ≡ some u → P u) → P r → (j : ℕ) (u : A) → get_elem? (l ++ r ∷ []) j ≡ some u → P u
all_snoc P l r inside last j u at = elim (snoc_at l r u j at) [
  | inl e ↦ inside j u e
  | inr e ↦ subst P e.1 last
]

pub pairs_snoc : {A : Type 0} (P : A → A → Type 0) (l : List A) (r : A) → ((j : ℕ) (u : A) → get_elem? l j ≡ some u → P r u × P u r)
    → ((i j : ℕ) (u q : A) → i ≢ j → get_elem? l i ≡ some u → get_elem? l j ≡ some q → P u q)
    → (i j : ℕ) (u q : A) → i ≢ j → get_elem? (l ++ r ∷ []) i ≡ some u → get_elem? (l ++ r ∷ []) j ≡ some q → P u q
pairs_snoc P l r here others i j u q ne a b = elim (snoc_at l r u i a) [
  | inl e ↦ elim (snoc_at l r q j b) [
    | inl f ↦ others i j u q ne e f
    | inr f ↦ subst (λ z. P u z) f.1 (here i u e).1
  ]
  | inr e ↦ elim (snoc_at l r q j b) [
    | inl f ↦ subst (λ z. P z q) e.1 (here j q f).0
    | inr f ↦ absurd (ne (e.0 ∙ sym f.0))
  ]
]

module _ {A : Type 0} (l : List A) (id other : ℕ) (b t : A) where
  pub all_set_two : (P : A → Type 0) → P b → P t → ((j : ℕ) (u : A) → j ≢ id → j ≢ other → get_elem? l j ≡ some u → P u) → (j : ℕ) (u : A) → get_elem? (slice_set (slice_set l id b) other t) j ≡ some u → P u
  all_set_two P pb pt rest j u at = all_set (λ _ u. P u) (slice_set l id b) other t pt (λ j u ne at. elim (at_set l id j b u at) [
    | inl e ↦ subst P e.1 pb
    | inr e ↦ rest j u e.0 ne e.1
  ]) j u at

  pub pairs_set_two : (P : A → A → Type 0) → ((u : A) → P t u × P u t) → ((j : ℕ) (u : A) → j ≢ id → j ≢ other → get_elem? l j ≡ some u → P b u × P u b)
      → ((i j : ℕ) (u q : A) → i ≢ j → get_elem? l i ≡ some u → get_elem? l j ≡ some q → P u q)
      → (i j : ℕ) (u q : A) → i ≢ j → get_elem? (slice_set (slice_set l id b) other t) i ≡ some u → get_elem? (slice_set (slice_set l id b) other t) j ≡ some q → P u q
  pairs_set_two P pt pb rest = pairs_set P (slice_set l id b) other t (λ j u _ _. pt u) (λ i j u q ni nj ne x y. elim (at_set l id i b u x) [
    | inl e ↦ elim (at_set l id j b q y) [
      | inl f ↦ absurd (ne (e.0 ∙ sym f.0))
      | inr f ↦ subst (λ z. P z q) e.1 (pb j q f.0 nj f.1).0
    ]
    | inr e ↦ elim (at_set l id j b q y) [
      | inl f ↦ subst (λ z. P u z) f.1 (pb i u e.0 ni e.1).1
      | inr f ↦ rest i j u q ne e.1 f.1
    ]
  ])

pub total_at : {A : Type 0} (f : A → ℕ) (xs : List A) (i : ℕ) (u : A) → get_elem? xs i ≡ some u → f u ≤ total f xs
total_at f [] i u at = absurd (some-ne-none u (sym at))
total_at f (x ∷ xs) zero u at = let e : f x ≡ f u = ap f (some-injective x u at) in let t : ℕ = total f xs in omega (arith, e)
total_at f (x ∷ xs) (suc i) u at = let h = total_at f xs i u at in omega (arith, h)
