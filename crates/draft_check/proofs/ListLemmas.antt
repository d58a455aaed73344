-- Numbers of blocks in lists, and lists in another order.
use Rattle.std.proofs.Common.{◌≡◌, ℕ, ◌+◌, Bool, true, false, ◌||◌, List, [], length, ◌∷◌, ◌++◌, refl, ap, sym, subst, ◌∙◌, inl, inr, arith, eqb-true}
use Rattle.std.specs.Prelude.{◌==◌, if◌then◌else◌}
use Rattle.std.specs.List.{sum_by}
use Rattle.std.specs.List.Sorted.{IsPermutation}
use Rattle.std.proofs.lemmas.List.Sorted.{sum_by-IsPermutation}
use Rattle.std.proofs.lemmas.List.Sums.{sum_by-cons}
use Rattle.std.proofs.lemmas.Bool.Decides.{nat_tests}
use Rattle.tree_defs.specs.Lists.{In, is_in, times}

same_number : (a b : ℕ) → a ≡ b → (a == b) ≡ true
same_number a b e = grind (arith, nat_tests)

pub stands : (b : ℕ) (list : List ℕ) → is_in b list ≡ true → In b list
stands b [] = λ h. cc h
stands b (q ∷ qs) = (elim (q == b) as (λ t. (q == b) ≡ t → (t || is_in b qs) ≡ true → In b (q ∷ qs)) [
  | true ↦ λ is h. inl (eqb-true q b is)
  | false ↦ λ isnt h. inr (stands b qs h)
]) refl

pub stands_not : (b : ℕ) (list : List ℕ) → is_in b list ≡ false → In b list → ⊥
stands_not b [] h there = there
stands_not b (q ∷ qs) h (inl same) = cc (same_number q b same)
stands_not b (q ∷ qs) h (inr there) = stands_not b qs (behind (q == b) (is_in b qs) h) there where
  behind : (s t : Bool) → (s || t) ≡ false → t ≡ false
  behind true t e = cc e
  behind false t e = e

-- how often a number stands in a list is a sum over it
times_sum : (b : ℕ) (xs : List ℕ) → times b xs ≡ sum_by (λ x. if x == b then 1 else 0) xs
times_sum b [] = refl
times_sum b (x ∷ xs) = ap (λ (n : ℕ). (if x == b then 1 else 0) + n) (times_sum b xs) ∙ sym (sum_by-cons (λ y. if y == b then 1 else 0) x xs)

times_append : (b : ℕ) (xs ys : List ℕ) → times b (xs ++ ys) ≡ times b xs + times b ys
times_append b [] ys = omega arith
times_append b (x ∷ xs) ys = omega (arith, times_append b xs ys)

-- two lists one after the other, in another order
pub times_both : (xs ys zs : List ℕ) → IsPermutation (xs ++ ys) zs → (b : ℕ) → times b zs ≡ times b xs + times b ys
times_both xs ys zs moved b =
    times_sum b zs
    ∙ sum_by-IsPermutation (λ x. if x == b then 1 else 0) (xs ++ ys) zs moved
    ∙ sym (times_sum b (xs ++ ys))
    ∙ times_append b xs ys

-- where this holds of the rest, it holds of all
abbrev pub Rests : (ℕ → Type 0) → List ℕ → List ℕ → Type 0
Rests P rest all = ((b : ℕ) → In b rest → P b) → (b : ℕ) → In b all → P b

-- it holds of one number, and of those behind it
pub one_more : (P : ℕ → Type 0) (v : ℕ) (later rest all : List ℕ) → rest ≡ v ∷ later → P v → Rests P rest all → Rests P later all
one_more P v later rest all is here rests behind = rests (λ b there. either b (subst (In b) is there)) where
  either : (b : ℕ) → In b (v ∷ later) → P b
  either b (inl same) = subst P same here
  either b (inr there) = behind b there

-- nothing is left
pub none_left : (P : ℕ → Type 0) (rest all : List ℕ) → length rest ≡ 0 → Rests P rest all → (b : ℕ) → In b all → P b
none_left P [] all none rests = rests (λ b there. absurd there)
none_left P (x ∷ xs) all none rests = absurd (omega (arith, none))
