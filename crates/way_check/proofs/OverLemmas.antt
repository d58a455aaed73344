-- Blocks that were made, one behind the other.
use Rattle.std.proofs.Common.{◌≡◌, ◌≢◌, ℕ, zero, suc, Bool, true, false, List, [], ◌∷◌, ◌++◌, refl, sym, ap, subst, ◌∙◌, inl, inr, arith}
use Rattle.std.specs.Prelude.{◌⊎◌, ◌==◌, ◌||◌, if◌then◌else◌}
use Rattle.std.proofs.lemmas.Bool.{eqb-true, cases_Bool}
use Rattle.std.proofs.lemmas.Bool.Decides.{nat_tests}
use Rattle.byte_fields.specs.declared.block.Block.{Block}
use Rattle.over_blocks.specs.Over.{over}
use Rattle.over_blocks.proofs.OverLemmas.{over_at, over_one, over_is}
use Rattle.way_check.specs.Checks.{is_placed}

pub same_test : (a : ℕ) → (a == a) ≡ true
same_test a = grind (arith, nat_tests)

pub other_test : (a b : ℕ) → a ≢ b → (a == b) ≡ false
other_test a b h =
    elim (cases_Bool (a == b)) [
      | inl e ↦ absurd (h (eqb-true a b e))
      | inr e ↦ e
    ]

choose : {A : Type 0} (c : Bool) (x y : A) → c ≡ true → (if c then x else y) ≡ x
choose true x y h = refl
choose false x y h = let z : false ≡ true = h in cc

skip : {A : Type 0} (c : Bool) (x y : A) → c ≡ false → (if c then x else y) ≡ y
skip true x y h = let z : true ≡ false = h in cc
skip false x y h = refl

last_at : (es : List (ℕ × Block)) (e : ℕ × Block) (p : ℕ) (bytes : List ℕ) → over_at (es ++ e ∷ []) p bytes ≡ over_one e p (over_at es p bytes)
last_at [] e p bytes = refl
last_at (x ∷ es) e p bytes = last_at es e p (over_one x p bytes)

-- the last block counts at its number
pub over_last : (es : List (ℕ × Block)) (e : ℕ × Block) (m : ℕ → List ℕ) (p : ℕ) → e.0 ≡ p → over (es ++ e ∷ []) m p ≡ e.1.bytes
over_last es e m p is =
    over_is (es ++ e ∷ []) m p
    ∙ (last_at es e p (m p)
    ∙ choose (p == e.0) e.1.bytes (over_at es p (m p)) (subst (λ (x : ℕ). (p == x) ≡ true) (sym is) (same_test p)))

-- and those before it elsewhere
pub over_others : (es : List (ℕ × Block)) (e : ℕ × Block) (m : ℕ → List ℕ) (p b : ℕ) → e.0 ≡ p → b ≢ p → over (es ++ e ∷ []) m b ≡ over es m b
over_others es e m p b is other =
    over_is (es ++ e ∷ []) m b
    ∙ (last_at es e b (m b)
    ∙ (skip (b == e.0) e.1.bytes (over_at es b (m b)) (subst (λ (x : ℕ). (b == x) ≡ false) (sym is) (other_test b p other))
    ∙ sym (over_is es m b)))

first_of : (a b : Bool) → (a || b) ≡ false → a ≡ false
first_of true b h = let z : true ≡ false = h in cc
first_of false b h = refl

rest_of : (a b : Bool) → (a || b) ≡ false → b ≡ false
rest_of true b h = let z : true ≡ false = h in cc
rest_of false b h = h

turn : (a b : ℕ) → (a == b) ≡ false → (b == a) ≡ false
turn a b h = other_test b a (λ e. let t : (a == b) ≡ true = subst (λ (x : ℕ). (a == x) ≡ true) (sym e) (same_test a) in let z : true ≡ false = sym t ∙ h in absurd cc)

stays_at : (es : List (ℕ × Block)) (p : ℕ) (bytes : List ℕ) → is_placed p es ≡ false → over_at es p bytes ≡ bytes
stays_at [] p bytes h = refl
stays_at (e ∷ es) p bytes h =
    stays_at es p (over_one e p bytes) (rest_of (e.0 == p) (is_placed p es) h)
    ∙ skip (p == e.0) e.1.bytes bytes (turn e.0 p (first_of (e.0 == p) (is_placed p es) h))

-- a block that wasn't made is as it was
pub over_stays : (es : List (ℕ × Block)) (m : ℕ → List ℕ) (p : ℕ) → is_placed p es ≡ false → over es m p ≡ m p
over_stays es m p h = over_is es m p ∙ stays_at es p (m p) h

-- what was made last, or before
pub placed_last : (es : List (ℕ × Block)) (e : ℕ × Block) (b : ℕ) → is_placed b (es ++ e ∷ []) ≡ true → (e.0 ≡ b) ⊎ (is_placed b es ≡ true)
placed_last [] e b h =
    elim (cases_Bool (e.0 == b)) [
      | inl t ↦ inl (eqb-true e.0 b t)
      | inr t ↦ let z : (e.0 == b || false) ≡ false = rw t refl in let y : true ≡ false = sym h ∙ z in absurd cc
    ]
placed_last (x ∷ es) e b h =
    elim (cases_Bool (x.0 == b)) [
      | inl t ↦ inr (rw t refl)
      | inr t ↦ let r : is_placed b (es ++ e ∷ []) ≡ true = rw t at h in elim (placed_last es e b r) [ inl is ↦ inl is | inr there ↦ inr (rw t there) ]
    ]
