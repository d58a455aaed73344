-- The blocks of a list: none, one, those of a front and a rest.
use Rattle.std.proofs.Common.{◌≡◌, ℕ, ◌<◌, ◌≤◌, Bool, true, false, ◌||◌, List, [], ◌∷◌, ◌++◌, length, get_or, refl, sym, ◌∙◌, ap, arith}
use Rattle.std.specs.Prelude.{◌==◌, ◌↔◌, Result, Ok, Err, OnOk}
use Rattle.std.proofs.lemmas.Bool.{eq-eqb, or_left, or_right}
use Rattle.std.proofs.lemmas.List.Folds.{list_any-append}
use Rattle.tree_claims.specs.Lists.{lists}
use Rattle.tree_claims.specs.Looks.{LieBelow}
use Rattle.tree_claims.proofs.RunLemmas.{or_none}

pub lists_none : (b : ℕ) → lists [] b ≡ false
unfolding lists
lists_none b = refl

pub lists_one : (x b : ℕ) → lists (x ∷ []) b ≡ (b == x)
unfolding lists
lists_one x b = sym (or_none (b == x))

-- a list behind another
pub lists_append : (xs ys : List ℕ) (b : ℕ) → lists (xs ++ ys) b ≡ (lists xs b || lists ys b)
unfolding lists
lists_append xs ys b = list_any-append (λ x. b == x) xs ys

-- one block behind a list
pub lists_put : (xs : List ℕ) (x b : ℕ) → lists (xs ++ x ∷ []) b ≡ (lists xs b || (b == x))
lists_put xs x b = lists_append xs (x ∷ []) b ∙ ap (λ (t : Bool). lists xs b || t) (lists_one x b)

pub lists_empty : (xs : List ℕ) → length xs ≡ 0 → (b : ℕ) → lists xs b ≡ false
lists_empty [] e b = lists_none b
lists_empty (x ∷ xs) e b = absurd (omega (arith, e))

pub lists_single : (xs : List ℕ) (d : ℕ) → length xs ≡ 1 → (b : ℕ) → lists xs b ≡ (b == get_or xs 0 d)
lists_single [] d e b = absurd (omega (arith, e))
lists_single (x ∷ []) d e b = lists_one x b
lists_single (x ∷ y ∷ ys) d e b = absurd (omega (arith, e))

-- the only block of a list lies below where all do
pub single_below : (xs : List ℕ) (d len : ℕ) → length xs ≡ 1 → LieBelow len (lists xs) → get_or xs 0 d < len
single_below xs d len e below = below (get_or xs 0 d) (lists_single xs d e (get_or xs 0 d) ∙ eq-eqb (get_or xs 0 d) (get_or xs 0 d) refl)

-- and so do the blocks of both parts
pub front_below : (all xs ys : List ℕ) (len : ℕ) → all ≡ xs ++ ys → LieBelow len (lists all) → LieBelow len (lists xs)
front_below all xs ys len e below b now = below b (ap (λ (l : List ℕ). lists l b) e ∙ (lists_append xs ys b ∙ or_left (lists xs b) (lists ys b) now))

pub rest_below : (all xs ys : List ℕ) (len : ℕ) → all ≡ xs ++ ys → LieBelow len (lists all) → LieBelow len (lists ys)
rest_below all xs ys len e below b now = below b (ap (λ (l : List ℕ). lists l b) e ∙ (lists_append xs ys b ∙ or_right (lists xs b) (lists ys b) now))

-- the sets of both parts hold together what the list has
pub parts_joined : (all xs ys : List ℕ) (s t u : ℕ → Bool) → all ≡ xs ++ ys → ((b : ℕ) → s b ≡ lists xs b) → ((b : ℕ) → t b ≡ lists ys b) → ((b : ℕ) → u b ≡ (s b || t b)) → (b : ℕ) → u b ≡ lists all b
parts_joined all xs ys s t u e front rest both b =
    both b
    ∙ (ap (λ (v : Bool). v || t b) (front b)
    ∙ (ap (λ (v : Bool). lists xs b || v) (rest b)
    ∙ (sym (lists_append xs ys b)
    ∙ ap (λ (l : List ℕ). lists l b) (sym e))))

pub lists_nothing : (xs : List ℕ) → xs ≡ [] → (b : ℕ) → lists xs b ≡ false
lists_nothing xs e b = ap (λ (l : List ℕ). lists l b) e ∙ lists_none b

-- what a list has lies below a greater length too
pub lists_low : (xs ys : List ℕ) (len high : ℕ) → ys ≡ xs → len ≤ high → LieBelow len (lists xs) → LieBelow high (lists ys)
lists_low xs ys len high e le below b now = let lt : b < len = below b (ap (λ (l : List ℕ). lists l b) (sym e) ∙ now) in omega (arith, lt, le)

-- a set of the blocks of a list
pub set_lists : (s : ℕ → Bool) (xs ys : List ℕ) → ys ≡ xs → ((b : ℕ) → s b ≡ lists ys b) → (b : ℕ) → s b ≡ lists xs b
set_lists s xs ys e h b = h b ∙ ap (λ (l : List ℕ). lists l b) e

-- what is said of the blocks that pass, of another test of the same
pub pass_as : (p q : ℕ → Bool) (P : ℕ → Type 0) → ((b : ℕ) → q b ≡ p b) → ((b : ℕ) → (p b ≡ true) ↔ P b) → (b : ℕ) → (q b ≡ true) ↔ P b
pass_as p q P same h b = (λ now. (h b).0 (sym (same b) ∙ now), λ a. same b ∙ (h b).1 a)

pub lie_as : (len : ℕ) (p q : ℕ → Bool) → ((b : ℕ) → q b ≡ p b) → LieBelow len p → LieBelow len q
lie_as len p q same below b now = below b (sym (same b) ∙ now)

pub ok_holds : {T E : Type 0} (P : Type 0) (r : Result T E) → P → OnOk r P
ok_holds P (Ok x) h = h
ok_holds P (Err e) h = tt
