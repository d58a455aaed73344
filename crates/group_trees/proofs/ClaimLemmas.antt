-- The blocks of maximal runs as a list, and that they are the ones that a tree claims.
use Rattle.std.proofs.Common.{◌≡◌, ℕ, zero, suc, ◌+◌, ◌<◌, ◌≤◌, ◌⊎◌, Bool, true, List, [], ◌∷◌, ◌++◌, length, get_or, refl, sym, subst, ◌∙◌, inl, inr, arith}
use Rattle.std.specs.Prelude.{nat_lt, nat_le}
use Rattle.std.proofs.lemmas.Bool.{false≢true, lt-ltb, ltb-true, and_parts, or_cases, cases_lt}
use Rattle.std.proofs.lemmas.Bool.Decides.{nat_tests}
use Rattle.fs_state.specs.Lists.{numbers}
use Rattle.fs_state.specs.Kinds.{Image}
use Rattle.geom.specs.Layout.{Layout}
use Rattle.inode_pass.specs.Units.{units_in}
use Rattle.group_trees.specs.Trees.{tree_claimed}
use Rattle.run_sets.specs.Runs.{AreMaximal, AreRunsOf, EndWithin, holds, is_within}
use Rattle.run_sets.specs.declared.run.Run.{Run}
use Rattle.sblock.specs.Form.{Form}
use Rattle.sblock.specs.Lists.{Rises}
use Rattle.tree_claims.specs.Rows.{AreClaims}
use Rattle.tree_defs.proofs.ClaimLemmas.{claims_are_listed_lem}
use Rattle.tree_defs.specs.Claims.{claims_of}
use Rattle.tree_defs.specs.Lists.{In}
use Rattle.tree_defs.specs.Sites.{site_of, group_blocks}
use Rattle.tree_walk.specs.Trails.{LieInside}

pub run_within : (n : ℕ) (runs : List Run) (i : ℕ) (d : Run) → i < length runs → EndWithin n runs → (get_or runs i d).start + (get_or runs i d).count ≤ n
run_within n [] i d lt h = absurd (omega (arith, lt))
run_within n (r ∷ rs) zero d lt h = h.0
run_within n (r ∷ rs) (suc i) d lt h = run_within n rs i d (omega (arith, lt)) h.1

-- ---- rising lists of numbers

-- each is at this number or above
AllFrom : ℕ → List ℕ → Type 0
AllFrom a [] = Unit {0}
AllFrom a (x ∷ xs) = (a ≤ x) × AllFrom a xs

from_more : (a b : ℕ) (xs : List ℕ) → a ≤ b → AllFrom b xs → AllFrom a xs
unfolding AllFrom
from_more a b [] le h = tt
from_more a b (x ∷ xs) le h = (let k = h.0 in omega (arith, le, k), from_more a b xs le h.1)

above : (x : ℕ) (xs : List ℕ) → Rises nat_lt (x ∷ xs) → AllFrom (x + 1) xs
unfolding AllFrom
above x [] h = tt
above x (y ∷ ys) h =
    let lt = ltb-true x y h.0 in
    (omega (arith, lt), from_more (x + 1) (y + 1) ys (omega (arith, lt)) (above y ys h.1))

not_below : (a p : ℕ) (xs : List ℕ) → AllFrom a xs → In p xs → a ≤ p
unfolding AllFrom
not_below a p [] h i = absurd i
not_below a p (x ∷ xs) h (inl is) = let k = h.0 in omega (arith, k, is)
not_below a p (x ∷ xs) h (inr i) = not_below a p xs h.1 i

first_least : (x y : ℕ) (xs ys : List ℕ) → Rises nat_lt (x ∷ xs) → In y (x ∷ xs) → x ≤ y
first_least x y xs ys h (inl is) = omega (arith, is)
first_least x y xs ys h (inr i) = let k = not_below (x + 1) y xs (above x xs h) i in omega (arith, k)

rest_in : (x y p : ℕ) (xs ys : List ℕ) → x ≡ y → Rises nat_lt (x ∷ xs) → In p xs → In p (y ∷ ys) → In p ys
rest_in x y p xs ys same h i (inl is) = let k = not_below (x + 1) p xs (above x xs h) i in absurd (omega (arith, k, is, same))
rest_in x y p xs ys same h i (inr j) = j

one_rising : (xs ys : List ℕ) → Rises nat_lt xs → Rises nat_lt ys → ((p : ℕ) → In p xs → In p ys) → ((p : ℕ) → In p ys → In p xs) → xs ≡ ys
one_rising [] [] h k to back = refl
one_rising [] (y ∷ ys) h k to back = absurd (back y (inl refl))
one_rising (x ∷ xs) [] h k to back = absurd (to x (inl refl))
one_rising (x ∷ xs) (y ∷ ys) h k to back =
    let low = first_least x y xs ys h (back y (inl refl)) in
    let high = first_least y x ys xs k (to x (inl refl)) in
    let same : x ≡ y = omega (arith, low, high) in
    let rest = one_rising xs ys h.1 k.1 (λ p i. rest_in x y p xs ys same h i (to p (inr i))) (λ p i. rest_in y x p ys xs (sym same) k i (back p (inr i))) in
    λ j. same j ∷ rest j

-- ---- the blocks of runs

in_numbers : (a n p : ℕ) → In p (numbers a n) → (a ≤ p) × (p < a + n)
in_numbers a zero p i = absurd i
in_numbers a (suc n) p (inl is) = (omega (arith, is), omega (arith, is))
in_numbers a (suc n) p (inr i) = let k = in_numbers (a + 1) n p i in let low = k.0 in let high = k.1 in (omega (arith, low), omega (arith, high))

numbers_have : (a n p : ℕ) → a ≤ p → p < a + n → In p (numbers a n)
numbers_have a zero p low high = absurd (omega (arith, low, high))
numbers_have a (suc n) p low high = elim (cases_lt a p) [
  | inl lt ↦ inr (numbers_have (a + 1) n p (omega (arith, lt)) (omega (arith, high)))
  | inr ge ↦ inl (omega (arith, low, ge))
]

in_left : (p : ℕ) (xs ys : List ℕ) → In p xs → In p (xs ++ ys)
in_left p [] ys i = absurd i
in_left p (x ∷ xs) ys (inl is) = inl is
in_left p (x ∷ xs) ys (inr i) = inr (in_left p xs ys i)

in_right : (p : ℕ) (xs ys : List ℕ) → In p ys → In p (xs ++ ys)
in_right p [] ys i = i
in_right p (x ∷ xs) ys i = inr (in_right p xs ys i)

in_either : (p : ℕ) (xs ys : List ℕ) → In p (xs ++ ys) → In p xs ⊎ In p ys
in_either p [] ys i = inr i
in_either p (x ∷ xs) ys (inl is) = inl (inl is)
in_either p (x ∷ xs) ys (inr i) = elim (in_either p xs ys i) [
  | inl h ↦ inl (inr h)
  | inr h ↦ inr h
]

to_runs : (runs : List Run) (p : ℕ) → In p (units_in runs) → holds runs p ≡ true
to_runs [] p i = absurd i
to_runs (r ∷ rs) p i = elim (in_either p (numbers r.start r.count) (units_in rs) i) [
  | inl h ↦ let k = in_numbers r.start r.count p h in let low = k.0 in let high = k.1 in grind (arith, nat_tests, low, high)
  | inr h ↦ let k = to_runs rs p h in grind (arith, nat_tests, k)
]

within_run : (r : Run) (p : ℕ) → is_within p r ≡ true → (r.start ≤ p) × (p < r.start + r.count)
within_run r p h = let k = and_parts (nat_le r.start p) (nat_lt p (r.start + r.count)) h in (grind (arith, nat_tests, k.0), ltb-true p (r.start + r.count) k.1)

from_runs : (runs : List Run) (p : ℕ) → holds runs p ≡ true → In p (units_in runs)
from_runs [] p h = absurd (false≢true h)
from_runs (r ∷ rs) p h = elim (or_cases (is_within p r) (holds rs p) h) [
  | inl w ↦ let k = within_run r p w in in_left p (numbers r.start r.count) (units_in rs) (numbers_have r.start r.count p k.0 k.1)
  | inr w ↦ in_right p (numbers r.start r.count) (units_in rs) (from_runs rs p w)
]

-- a rising front before a rising rest that begins above it
numbers_ahead : (a n : ℕ) (xs : List ℕ) → AllFrom (a + n) xs → Rises nat_lt xs → Rises nat_lt (numbers a n ++ xs)
unfolding AllFrom
numbers_ahead a zero xs h k = k
numbers_ahead a (suc zero) [] h k = (tt, tt)
numbers_ahead a (suc zero) (x ∷ xs) h k = let l = h.0 in (lt-ltb a x (omega (arith, l)), k)
numbers_ahead a (suc (suc n)) xs h k =
    let e : a + suc (suc n) ≡ a + 1 + suc n = omega arith in
    (lt-ltb a (a + 1) (omega arith), numbers_ahead (a + 1) (suc n) xs (from_more (a + 1 + suc n) (a + suc (suc n)) xs (omega arith) h) k)

runs_from : (a : ℕ) (runs : List Run) → AreMaximal a runs → AllFrom a (units_in runs)
unfolding AllFrom
runs_from a [] h = tt
runs_from a (r ∷ rs) h = both r.start r.count h.0 (from_more a (r.start + r.count + 1) (units_in rs) (let l = h.0 in omega (arith, l)) (runs_from (r.start + r.count + 1) rs h.2)) where
  both : (s n : ℕ) → a ≤ s → AllFrom a (units_in rs) → AllFrom a (numbers s n ++ units_in rs)
  both s zero le k = k
  both s (suc n) le k = (le, both (s + 1) n (omega (arith, le)) k)

runs_rise : (a : ℕ) (runs : List Run) → AreMaximal a runs → Rises nat_lt (units_in runs)
runs_rise a [] h = tt
runs_rise a (r ∷ rs) h =
    numbers_ahead r.start r.count (units_in rs) (from_more (r.start + r.count) (r.start + r.count + 1) (units_in rs) (omega arith) (runs_from (r.start + r.count + 1) rs h.2)) (runs_rise (r.start + r.count + 1) rs h.2)

-- ---- the blocks that a tree claims

module _ {R K : Type 0} (form : Form R K) (at : Layout) (image : Image) (g root levels : ℕ) where
  pub claims_listed : (has : ℕ → Bool) (runs : List Run) (blocks : List ℕ) → AreClaims form (site_of at g) (group_blocks (site_of at g) image) root levels has → AreRunsOf has runs → blocks ≡ units_in runs → blocks ≡ tree_claimed form at image g root levels
  unfolding tree_claimed
  claims_listed has runs blocks claims are is =
      let site = site_of at g in
      let m = group_blocks site image in
      let listed = claims_are_listed_lem form site m root levels in
      is ∙ one_rising (units_in runs) (claims_of form site m root levels) (runs_rise 0 runs are.maximal) listed.1
      (λ p i. (listed.0 p).0.1 ((claims p).0 (sym (are.exact p) ∙ to_runs runs p i)))
      (λ p i. from_runs runs p (are.exact p ∙ (claims p).1 ((listed.0 p).0.0 i)))

each_inside : (len : ℕ) (xs : List ℕ) → ((p : ℕ) → In p xs → p < len) → LieInside len xs
each_inside len [] h = tt
each_inside len (x ∷ xs) h = (lt-ltb x len (h x (inl refl)), each_inside len xs (λ p i. h p (inr i)))

-- the blocks of such runs lie where the runs' blocks lie
pub claims_inside : (has : ℕ → Bool) (runs : List Run) (blocks : List ℕ) (len : ℕ) → ((b : ℕ) → has b ≡ true → b < len) → AreRunsOf has runs → blocks ≡ units_in runs → LieInside len blocks
claims_inside has runs blocks len low are is = subst (LieInside len) (sym is) (each_inside len (units_in runs) (λ p i. low p (sym (are.exact p) ∙ to_runs runs p i)))
