-- Numbers in lists.
use Rattle.std.proofs.Common.{◌≡◌, ℕ, zero, suc, ◌+◌, ◌≤◌, List, [], ◌∷◌, refl, sym, subst, inl, inr, arith}
use Rattle.std.specs.Prelude.{◌⊎◌}
use Rattle.std.proofs.lemmas.Bool.{cases_eq}
use Rattle.tree_defs.specs.Lists.{In, times}
use Rattle.tree_edit.proofs.BlockLemmas.{counted, stands}

-- a number stands in a list or doesn't
pub in_or_not : (b : ℕ) (bs : List ℕ) → In b bs ⊎ (In b bs → ⊥)
in_or_not b [] = inr (λ there. there)
in_or_not b (c ∷ cs) =
    elim (cases_eq c b) [
      | inl e ↦ inl (inl e)
      | inr n ↦ elim (in_or_not b cs) [ inl there ↦ inl (inr there) | inr none ↦ inr (λ h. elim h [ inl same ↦ n same | inr there ↦ none there ]) ]
    ]

-- this is the image's number of one of these blocks, or of none
pub where_in : (first at : ℕ) (bs : List ℕ) → ((b : ℕ) × In b bs × (first + b ≡ at)) ⊎ ((b : ℕ) → In b bs → first + b ≡ at → ⊥)
where_in first at [] = inr (λ b there same. there)
where_in first at (b ∷ bs) =
    elim (cases_eq (first + b) at) [
      | inl e ↦ inl (b, inl refl, e)
      | inr n ↦ elim (where_in first at bs) [
        | inl w ↦ inl (w.0, inr w.1, w.2)
        | inr none ↦ inr (λ c h e. elim h [ inl same ↦ n (subst (λ (x : ℕ). first + x ≡ at) (sym same) e) | inr there ↦ none c there e ])
      ]
    ]

-- a number that is counted in one of two lists stands in it
pub one_of : (b : ℕ) (xs ys : List ℕ) → 1 ≤ times b xs + times b ys → In b xs ⊎ In b ys
one_of b xs ys some = split (times b xs) refl where
  split : (n : ℕ) → times b xs ≡ n → In b xs ⊎ In b ys
  split zero e = inr (stands b ys (omega (arith, e, some)))
  split (suc n) e = inl (stands b xs (omega (arith, e)))

-- where these blocks are those, each as often, one of these is one of those
pub moved : (b : ℕ) (after left before taken : List ℕ) → times b after + times b left ≡ times b before + times b taken → In b after → In b before ⊎ In b taken
moved b after left before taken once there = let some = counted b after there in one_of b before taken (omega (arith, some, once))

pub moved_back : (b : ℕ) (after left before taken : List ℕ) → times b after + times b left ≡ times b before + times b taken → In b before ⊎ In b taken → In b after ⊎ In b left
moved_back b after left before taken once (inl there) = let some = counted b before there in one_of b after left (omega (arith, some, once))
moved_back b after left before taken once (inr there) = let some = counted b taken there in one_of b after left (omega (arith, some, once))
