-- Units by their names, and places of a list.
use Rattle.std.proofs.Common.{◌≡◌, ℕ, zero, suc, ◌<◌, ◌==◌, ◌&&◌, Bool, true, false, List, [], ◌∷◌, length, refl, ap, sym, subst, eqb-true, eq-eqb, inl, inr, Some, None, arith}
use Rattle.std.specs.Prelude.{if◌then◌else◌, slice_set}
use Rattle.std.specs.List.{slice_get}
use Rattle.std.proofs.lemmas.Bool.{and_parts, cases_Bool, true≢false}
use Rattle.fs_state.specs.Session.{is_at, is_same_unit}
use Rattle.fs_model.specs.declared.unit.Unit.{Unit as ScrubUnit}
use Rattle.fs_model.specs.declared.unit.Unit.TheVariants as units

-- ---- one unit by two names

same_unit : (u v : ScrubUnit) → is_same_unit u v ≡ true → v ≡ u
same_unit units.Inode units.Inode h = refl
same_unit units.Rmap units.Rmap h = refl
same_unit units.Free units.Free h = refl
same_unit units.Refc units.Refc h = refl
same_unit u v h = absurd (true≢false (sym h))

-- what holds of a unit holds of the same unit by its other name
pub at_place : (P : ℕ → ScrubUnit → Type 0) (g : ℕ) (u : ScrubUnit) (h : ℕ) (v : ScrubUnit) → is_at g u h v ≡ true → P h v → P g u
at_place P g u h v at p =
    let both = and_parts (h == g) (is_same_unit u v) at in
    subst (λ w. P g w) (same_unit u v both.1) (subst (λ i. P i v) (eqb-true h g both.0) p)

-- in one group the unit alone tells
pub at_own : (g h : ℕ) (u v : ScrubUnit) → h ≡ g → is_at g u h v ≡ is_same_unit u v
at_own g h u v is = ap (λ (b : Bool). b && is_same_unit u v) (eq-eqb h g is)

-- in two groups no unit is the other
pub at_none : (g h : ℕ) (u v : ScrubUnit) → (h ≡ g → ⊥) → is_at g u h v ≡ false
at_none g h u v away = elim (cases_Bool (h == g)) [
  | inl same ↦ absurd (away (eqb-true h g same))
  | inr other ↦ ap (λ (b : Bool). b && is_same_unit u v) other
]

-- ---- tests

pub on_false : {X : Type 0} (t : Bool) (x y : X) → t ≡ false → (if t then x else y) ≡ y
on_false t x y h = ap (λ b. if b then x else y) h

-- what is false where the test holds is so by the test too
pub falls_if : (t x : Bool) → (t ≡ true → x ≡ false) → x ≡ (if t then false else x)
falls_if true x f = f refl
falls_if false x f = refl

-- ---- places of a list

some_same : {X : Type 0} (x y : X) → Some x ≡ Some y → x ≡ y
some_same x y is = cc

none_some : {X : Type 0} (x : X) → None ≡ Some x → ⊥
none_some x is = cc

-- what holds of the value that was set, and of each other place, holds of each place
pub all_set : {X : Type 0} (P : ℕ → X → Type 0) (xs : List X) (i : ℕ) (v : X) → P i v → ((j : ℕ) (x : X) → (j ≡ i → ⊥) → slice_get xs j ≡ Some x → P j x)
    → (j : ℕ) (x : X) → slice_get (slice_set xs i v) j ≡ Some x → P j x
all_set P [] i v here all j x is = absurd (none_some x is)
all_set P (y ∷ ys) zero v here all zero x is = subst (P zero) (some_same v x is) here
all_set P (y ∷ ys) zero v here all (suc j) x is = all (suc j) x (λ e. omega (arith, e)) is
all_set P (y ∷ ys) (suc i) v here all zero x is = all zero x (λ e. omega (arith, e)) is
all_set P (y ∷ ys) (suc i) v here all (suc j) x is = all_set (λ k z. P (suc k) z) ys i v here (λ k z away at. all (suc k) z (λ e. away (omega (arith, e))) at) j x is

-- a place below the length has a value
pub value_at : {X : Type 0} (xs : List X) (i : ℕ) → i < length xs → (x : X) × (slice_get xs i ≡ Some x)
value_at [] i lt = absurd (omega (arith, lt))
value_at (x ∷ xs) zero lt = (x, refl)
value_at (x ∷ xs) (suc i) lt = value_at xs i (omega (arith, lt))
