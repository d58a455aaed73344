-- Lists in any order, and what a test keeps of them.
use Rattle.std.proofs.Common.{◌≡◌, ℕ, ◌⊎◌, zero, suc, ◌<◌, Bool, true, false, cond, List, [], ◌∷◌, ◌++◌, length, get_or, set, swap, Contains, Result, Ok, Err, refl, ap, ◌∙◌, subst, inl, inr, arith, append_assoc}
use Rattle.std.specs.Prelude.{OnOk}
use Rattle.std.specs.List.{filter}
use Rattle.std.specs.List.Sorted.{IsPermutation}
use Rattle.std.proofs.lemmas.List.Sorted.{IsPermutation-refl, IsPermutation-keeps, IsPermutation-trans, IsPermutation-cons, IsPermutation-middle, IsPermutation-append_left, IsPermutation-append_comm}
use Rattle.rmap_recs.proofs.RisingLemmas.{in_front, in_rest}

-- what follows from an Ok follows from what that gives
pub on_ok : {T E : Type 0} (r : Result T E) (P Q : Type 0) → (P → Q) → OnOk r P → OnOk r Q
on_ok (Ok x) P Q f h = f h
on_ok (Err e) P Q f h = tt

-- ---- a relation that goes along each exchange of two neighbours goes along a permutation

module _ {X : Type 0} (R : List X → List X → Type 0) (same : (xs : List X) → R xs xs)
    (skip : (x : X) (xs ys : List X) → R xs ys → R (x ∷ xs) (x ∷ ys))
    (turn : (x y : X) (xs : List X) → R (x ∷ y ∷ xs) (y ∷ x ∷ xs))
    (chain : (xs ys zs : List X) → R xs ys → R ys zs → R xs zs) where
  to_head : (l : List X) (j : ℕ) (x d : X) → j < length l → R (x ∷ l) (get_or l j d ∷ set l j x)
  to_head [] j x d h = absurd (omega arith)
  to_head (y ∷ l) zero x d h = turn x y l
  to_head (y ∷ l) (suc j) x d h =
      chain _ _ _ (turn x y l) (chain _ _ _ (skip y _ _ (to_head l j x d (omega arith))) (turn y (get_or l j d) (set l j x)))

  exchanged : (l : List X) (i j : ℕ) (d : X) → i < length l → j < length l → R l (set (set l i (get_or l j d)) j (get_or l i d))
  exchanged [] i j d p q = absurd (omega arith)
  exchanged (x ∷ l) zero zero d p q = same (x ∷ l)
  exchanged (x ∷ l) zero (suc j) d p q = to_head l j x d (omega arith)
  exchanged (x ∷ l) (suc i) zero d p q = to_head l i x d (omega arith)
  exchanged (x ∷ l) (suc i) (suc j) d p q = skip x _ _ (exchanged l i j d (omega arith) (omega arith))

  swapped : (l : List X) (i j : ℕ) → i < length l → j < length l → R l (swap l i j)
  swapped [] i j p q = same []
  swapped (x ∷ l) i j p q = exchanged (x ∷ l) i j x p q

  pub along_permutation : (xs ys : List X) → IsPermutation xs ys → R xs ys
  along_permutation xs = IsPermutation-keeps xs (R xs) (same xs) (λ l i j p q h. chain xs l _ h (swapped l i j p q))

module _ {X : Type 0} (p : X → Bool) where
  with_head : (b : Bool) (x : X) (xs ys : List X) → IsPermutation xs ys → IsPermutation (cond b (x ∷ xs) xs) (cond b (x ∷ ys) ys)
  with_head true x xs ys h = IsPermutation-cons x xs ys h
  with_head false x xs ys h = h

  turned : (x y : X) (xs : List X) → IsPermutation (x ∷ y ∷ xs) (y ∷ x ∷ xs)
  turned x y xs = IsPermutation-append_left xs (x ∷ y ∷ []) (y ∷ x ∷ []) (IsPermutation-append_comm (x ∷ []) (y ∷ []))

  two_heads : (a b : Bool) (x y : X) (xs : List X) → IsPermutation (cond a (x ∷ cond b (y ∷ xs) xs) (cond b (y ∷ xs) xs)) (cond b (y ∷ cond a (x ∷ xs) xs) (cond a (x ∷ xs) xs))
  two_heads true true x y xs = turned x y xs
  two_heads true false x y xs = IsPermutation-refl (x ∷ xs)
  two_heads false true x y xs = IsPermutation-refl (y ∷ xs)
  two_heads false false x y xs = IsPermutation-refl xs

  -- a test keeps as much of a list in another order
  pub filter_permutes : (xs ys : List X) → IsPermutation xs ys → IsPermutation (filter p xs) (filter p ys)
  filter_permutes = along_permutation (λ xs ys. IsPermutation (filter p xs) (filter p ys))
      (λ xs. IsPermutation-refl (filter p xs))
      (λ x xs ys h. with_head (p x) x (filter p xs) (filter p ys) h)
      (λ x y xs. two_heads (p x) (p y) x y (filter p xs))
      (λ xs ys zs h k. IsPermutation-trans (filter p xs) (filter p ys) (filter p zs) h k)

  -- all pass, or none does
  pub all_pass : (xs : List X) → ((x : X) → Contains xs x → p x ≡ true) → filter p xs ≡ xs
  all_pass [] h = refl
  all_pass (x ∷ xs) h = rw (h x (in_front x xs)) (ap (λ (zs : List X). x ∷ zs) (all_pass xs (λ y c. h y (in_rest x xs y c))))

  pub none_passes : (xs : List X) → ((x : X) → Contains xs x → p x ≡ false) → filter p xs ≡ []
  none_passes [] h = refl
  none_passes (x ∷ xs) h = rw (h x (in_front x xs)) (none_passes xs (λ y c. h y (in_rest x xs y c)))

-- two tests that agree on a list keep the same of it
pub filter_alike : {X : Type 0} (p q : X → Bool) (xs : List X) → ((x : X) → Contains xs x → p x ≡ q x) → filter p xs ≡ filter q xs
filter_alike p q [] h = refl
filter_alike p q (x ∷ xs) h =
    ap (λ (b : Bool). cond b (x ∷ filter p xs) (filter p xs)) (h x (in_front x xs))
    ∙ ap (λ (zs : List _). cond (q x) (x ∷ zs) zs) (filter_alike p q xs (λ y c. h y (in_rest x xs y c)))

-- what the first test says of an element is what one of two others says, and never both
abbrev pub Splits : Bool → Bool → Bool → Type 0
Splits a b c = ((a ≡ true) × (b ≡ true) × (c ≡ false)) ⊎ (((a ≡ true) × (b ≡ false) × (c ≡ true)) ⊎ ((a ≡ false) × (b ≡ false) × (c ≡ false)))

abbrev pub kept : {X : Type 0} → Bool → X → List X → List X
kept b x xs = cond b (x ∷ xs) xs

module _ {X : Type 0} where
  one_more : (x : X) (ps qs rs : List X) → IsPermutation (qs ++ rs) ps → (a b c : Bool) → Splits a b c → IsPermutation (kept b x qs ++ kept c x rs) (kept a x ps)
  one_more x ps qs rs h a b c (inl (is_a, is_b, is_c)) = rw (is_a, is_b, is_c) (IsPermutation-cons x (qs ++ rs) ps h)
  one_more x ps qs rs h a b c (inr (inl (is_a, is_b, is_c))) =
      rw (is_a, is_b, is_c) (IsPermutation-trans (qs ++ x ∷ rs) (x ∷ (qs ++ rs)) (x ∷ ps) (IsPermutation-middle qs x rs) (IsPermutation-cons x (qs ++ rs) ps h))
  one_more x ps qs rs h a b c (inr (inr (is_a, is_b, is_c))) = rw (is_a, is_b, is_c) h

  pub split_in_two : (p q r : X → Bool) (xs : List X) → ((x : X) → Contains xs x → Splits (p x) (q x) (r x)) → IsPermutation (filter q xs ++ filter r xs) (filter p xs)
  split_in_two p q r [] h = IsPermutation-refl []
  split_in_two p q r (x ∷ xs) h =
      one_more x (filter p xs) (filter q xs) (filter r xs) (split_in_two p q r xs (λ y c. h y (in_rest x xs y c))) (p x) (q x) (r x) (h x (in_front x xs))

  -- in a list that was put together of two, the first of them comes in front
  pub first_in_front : (new xs ys : List X) → IsPermutation (new ++ (xs ++ ys)) (xs ++ (new ++ ys))
  first_in_front new xs ys =
      subst (λ (zs : List X). IsPermutation zs (xs ++ (new ++ ys))) (append_assoc new xs ys)
      (subst (IsPermutation ((new ++ xs) ++ ys)) (append_assoc xs new ys) (IsPermutation-append_left ys (new ++ xs) (xs ++ new) (IsPermutation-append_comm new xs)))
