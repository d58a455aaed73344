-- Units by their names, and small tests.
use Rattle.std.proofs.Common.{◌≡◌, ℕ, ◌++◌, ◌==◌, ◌&&◌, Bool, true, false, List, [], ◌∷◌, refl, ap, sym, subst, ◌∙◌, eqb-true, eq-eqb, append_assoc, reverse}
use Rattle.std.specs.Prelude.{if◌then◌else◌}
use Rattle.std.proofs.lemmas.Bool.{and_parts, false≢true, true≢false}
use Rattle.std.proofs.lemmas.List.{reverse-append}
use Rattle.fs_state.specs.Session.{is_at, is_same_unit}
use Rattle.fs_model.specs.declared.entry.Entry.{Entry}
use Rattle.fs_model.specs.declared.unit.Unit.{Unit as ScrubUnit}
use Rattle.fs_model.specs.declared.unit.Unit.TheVariants as units

-- ---- one place by two names

pub same_unit : (u v : ScrubUnit) → is_same_unit u v ≡ true → v ≡ u
same_unit units.Inode units.Inode h = refl
same_unit units.Rmap units.Rmap h = refl
same_unit units.Free units.Free h = refl
same_unit units.Refc units.Refc h = refl
same_unit u v h = absurd (true≢false (sym h))

-- what holds of a place holds of the same place by its other name
pub at_place : (P : ℕ → ScrubUnit → Type 0) (g : ℕ) (u : ScrubUnit) (h : ℕ) (v : ScrubUnit) → is_at g u h v ≡ true → P h v → P g u
at_place P g u h v at p =
    let both = and_parts (h == g) (is_same_unit u v) at in
    subst (λ w. P g w) (same_unit u v both.1) (subst (λ i. P i v) (eqb-true h g both.0) p)

pub at_other : (P : ℕ → ScrubUnit → Type 0) (g : ℕ) (u : ScrubUnit) (h : ℕ) (v : ScrubUnit) → is_at g u h v ≡ true → P g u → P h v
at_other P g u h v at p =
    let both = and_parts (h == g) (is_same_unit u v) at in
    subst (λ i. P i v) (sym (eqb-true h g both.0)) (subst (λ w. P g w) (sym (same_unit u v both.1)) p)

same_self : (u : ScrubUnit) → is_same_unit u u ≡ true
same_self units.Inode = refl
same_self units.Rmap = refl
same_self units.Free = refl
same_self units.Refc = refl

pub at_itself : (g : ℕ) (u : ScrubUnit) → is_at g u g u ≡ true
at_itself g u = ap (λ (b : Bool). b && is_same_unit u u) (eq-eqb g g refl) ∙ same_self u

-- ---- tests

pub on_true : {X : Type 0} (t : Bool) (x y : X) → t ≡ true → (if t then x else y) ≡ x
on_true t x y h = ap (λ b. if b then x else y) h

pub on_false : {X : Type 0} (t : Bool) (x y : X) → t ≡ false → (if t then x else y) ≡ y
on_false t x y h = ap (λ b. if b then x else y) h

-- a unit stands behind a fault or a mark that isn't its own, and stood before
pub spared : (t old : Bool) → (if t then false else old) ≡ true → (t ≡ false) × (old ≡ true)
spared true old h = absurd (false≢true h)
spared false old h = (refl, h)

-- ---- journals

pub reverse_more : (e : Entry) (es past : List Entry) → reverse (e ∷ es) ++ past ≡ reverse es ++ e ∷ past
reverse_more e es past = ap (λ l. l ++ past) (reverse-append (e ∷ []) es) ∙ append_assoc (reverse es) (e ∷ []) past
