-- Which blocks an edited tree has and leaves.
use Rattle.std.proofs.Common.{◌≡◌, ◌≤◌, ◌<◌, ◌-◌, ℕ, zero, suc, ◌+◌, Bool, true, false, List, [], ◌∷◌, ◌++◌, length, take, drop, refl, sym, ap, subst, ◌∙◌, inl, inr, arith, append_assoc, Result, Ok, Err, length-drop, take-append-drop, eqb-true}
use Rattle.std.specs.Prelude.{OnOk, ◌⊎◌, ◌==◌, ◌&&◌, nat_le, nat_lt, if◌then◌else◌}
use Rattle.std.proofs.lemmas.Bool.Decides.{nat_tests}
use Rattle.sblock.specs.Blocks.{AreBlocks}
use Rattle.sblock.specs.Lists.{Each}
use Rattle.tree_defs.specs.Lists.{In, times, AllDiffer}
use Rattle.edit_blocks.specs.Choice.{taken}
use Rattle.edit_blocks.proofs.ChoiceLemmas.{times_append, each_once}
use Rattle.redo_area.specs.Area.{Batch}
use Rattle.join_blocks.specs.Joins.{LieBelow, OnlyThese, CountsAll, count_of}
use Rattle.tree_edit.specs.Anew.{AreChosen}

-- a block of two lists is one of either
pub in_either : (b : ℕ) (xs ys : List ℕ) → In b (xs ++ ys) → In b xs ⊎ In b ys
in_either b [] ys there = inr there
in_either b (x ∷ xs) ys (inl same) = inl (inl same)
in_either b (x ∷ xs) ys (inr there) = on (in_either b xs ys there) where
  on : In b xs ⊎ In b ys → In b (x ∷ xs) ⊎ In b ys
  on (inl mine) = inl (inr mine)
  on (inr other) = inr other

pub in_first : (b : ℕ) (xs ys : List ℕ) → In b xs → In b (xs ++ ys)
in_first b [] ys there = absurd there
in_first b (x ∷ xs) ys (inl same) = inl same
in_first b (x ∷ xs) ys (inr there) = inr (in_first b xs ys there)

pub in_rest : (b : ℕ) (xs ys : List ℕ) → In b ys → In b (xs ++ ys)
in_rest b [] ys there = there
in_rest b (x ∷ xs) ys there = inr (in_rest b xs ys there)

-- where only some blocks were joined, and then only others, only these were
pub only_more : (first : ℕ) (xs ys : List ℕ) (old new : Batch) → OnlyThese first xs old new → OnlyThese first (xs ++ ys) old new
only_more first xs ys old new only at none = only at (λ b there. none b (in_first b xs ys there))

pub only_then : (first : ℕ) (xs ys : List ℕ) (old mid new : Batch) → OnlyThese first xs old mid → OnlyThese first ys mid new → OnlyThese first (xs ++ ys) old new
only_then first xs ys old mid new only more at none = more at (λ b there. none b (in_rest b xs ys there)) ∙ only at (λ b there. none b (in_first b xs ys there))

-- two rows of blocks are counted as one
pub counts_both : (first : ℕ) (xs ys : List ℕ) (old mid new : Batch) → CountsAll first xs old mid → CountsAll first ys mid new → CountsAll first (xs ++ ys) old new
counts_both first xs ys old mid new one two bs = two bs ∙ one (ys ++ bs) ∙ ap (count_of old first) (sym (append_assoc xs ys bs))

pub on_ok : {T E : Type 0} {P Q : Type 0} (result : Result T E) → (P → Q) → OnOk result P → OnOk result Q
on_ok (Ok x) f p = f p
on_ok (Err e) f p = tt

met : (x : ℕ) → ◌≡◌ {A = ℕ} (if x == x then 1 else 0) 1
met x = grind arith

-- a block stands in a list where it is counted there
pub counted : (b : ℕ) (bs : List ℕ) → In b bs → 1 ≤ times b bs
counted b [] there = absurd there
counted b (c ∷ cs) (inl same) = let one : ◌≡◌ {A = ℕ} (if c == b then 1 else 0) 1 = subst (λ (n : ℕ). ◌≡◌ {A = ℕ} (if c == n then 1 else 0) 1) same (met c) in omega (arith, one)
counted b (c ∷ cs) (inr there) = let some = counted b cs there in omega (arith, some)

pub stands : (b : ℕ) (bs : List ℕ) → 1 ≤ times b bs → In b bs
stands b [] some = absurd (omega (arith, some))
stands b (c ∷ cs) some = (elim (c == b) as (λ t. (c == b) ≡ t → 1 ≤ (if t then 1 else 0) + times b cs → (c ≡ b) ⊎ In b cs) [
  | true ↦ λ is h. inl (eqb-true c b is)
  | false ↦ λ isnt h. inr (stands b cs (omega (arith, h)))
]) refl some

some_long : (b : ℕ) (bs : List ℕ) → In b bs → 1 ≤ length bs
some_long b [] there = absurd there
some_long b (c ∷ cs) there = omega arith

module _ (before listed claimed left : List ℕ) (chose : AreChosen before listed claimed left) (b : ℕ) where
  pub once : times b claimed + times b left ≡ times b before + times b (taken before listed (length claimed))
  once =
      let c = ap (times b) chose.first in
      let f = ap (times b) chose.rest in
      let whole = each_once before listed (length claimed) b in
      omega (arith, c, f, whole)

  -- a block that is left isn't one of the tree's afterwards
  pub apart : AllDiffer before → In b claimed → In b left → ⊥
  apart differ mine leaves =
      let one = counted b claimed mine in
      let other = counted b left leaves in
      let long = some_long b left leaves in
      let short = ap length chose.rest in
      let rest = length-drop (length claimed) before in
      let none : length claimed - length before ≡ 0 = omega (arith, long, short, rest) in
      let nothing : times b (taken before listed (length claimed)) ≡ 0 = ap (λ (k : ℕ). times b (take k listed)) none in
      let most = differ b in
      absurd (omega (arith, one, other, once, nothing, most))

  -- each block is one that the tree had, or one that it takes
  pub either : In b claimed ⊎ In b left → In b before ⊎ In b (taken before listed (length claimed))
  either (inl mine) = let one = counted b claimed mine in by_count (omega (arith, one, once))
    where
      by_count : 1 ≤ times b before + times b (taken before listed (length claimed)) → In b before ⊎ In b (taken before listed (length claimed))
      by_count some = split (times b before) refl where
        split : (n : ℕ) → times b before ≡ n → In b before ⊎ In b (taken before listed (length claimed))
        split zero e = inr (stands b (taken before listed (length claimed)) (omega (arith, some, e)))
        split (suc n) e = inl (stands b before (omega (arith, e)))
  either (inr leaves) =
      let other = counted b left leaves in
      let f = ap (times b) chose.rest in
      let whole = ap (times b) (take-append-drop (length claimed) before) in
      let parts = times_append b (take (length claimed) before) (drop (length claimed) before) in
      inl (stands b before (omega (arith, other, f, whole, parts)))

-- ---- blocks below a size

pub lie_first : (size first : ℕ) (xs ys : List ℕ) → LieBelow size first (xs ++ ys) → LieBelow size first xs
lie_first size first [] ys lie = tt
lie_first size first (x ∷ xs) ys lie = (lie.0, lie_first size first xs ys lie.1)

pub lie_rest : (size first : ℕ) (xs ys : List ℕ) → LieBelow size first (xs ++ ys) → LieBelow size first ys
lie_rest size first [] ys lie = lie
lie_rest size first (x ∷ xs) ys lie = lie_rest size first xs ys lie.1

lies : (b len : ℕ) → nat_lt b len ≡ true → b < len
lies b len h = grind (arith, nat_tests)

lies_behind : (b len : ℕ) → (nat_le 1 b && nat_lt b len) ≡ true → b < len
lies_behind b len h = grind (arith, nat_tests)

pub lie_of_blocks : (size first len : ℕ) (bs : List ℕ) → first + len ≤ size → AreBlocks len bs → LieBelow size first bs
lie_of_blocks size first len [] room all = tt
lie_of_blocks size first len (b ∷ bs) room all = let low = lies_behind b len all.0 in (omega (arith, low, room), lie_of_blocks size first len bs room all.1)

pub lie_of_inside : (size first len : ℕ) (bs : List ℕ) → first + len ≤ size → Each (λ b. nat_lt b len) bs → LieBelow size first bs
lie_of_inside size first len [] room all = tt
lie_of_inside size first len (b ∷ bs) room all = let low = lies b len all.0 in (omega (arith, low, room), lie_of_inside size first len bs room all.1)

pub lie_both : (size first : ℕ) (xs ys : List ℕ) → LieBelow size first xs → LieBelow size first ys → LieBelow size first (xs ++ ys)
lie_both size first [] ys low high = high
lie_both size first (x ∷ xs) ys low high = (low.0, lie_both size first xs ys low.1 high)

pub each_drop : (test : ℕ → Bool) (n : ℕ) (xs : List ℕ) → Each test xs → Each test (drop n xs)
each_drop test zero xs all = all
each_drop test (suc n) [] all = tt
each_drop test (suc n) (x ∷ xs) all = each_drop test n xs all.1
