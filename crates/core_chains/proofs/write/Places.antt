-- What holds of each place of a list, after one place was set.
use Rattle.std.proofs.Common.{◌≡◌, ◌∙◌, ℕ, zero, suc, refl, ap, subst}
use Rattle.std.specs.Prelude.{List, [], ◌∷◌, Option, Some, None, slice_set}
use Rattle.std.specs.List.{slice_get}
use Rattle.core_parts.specs.Safe.{AreKept, AreUnits, IsKept, IsUnit}
use Rattle.core_parts.specs.declared.groups.GroupKept.{GroupKept}
use Rattle.core_parts.specs.declared.units.UnitState.{UnitState}
use Rattle.geom.specs.Layout.{Layout}

pub some_same : {X : Type 0} (x y : X) → Some x ≡ Some y → x ≡ y
some_same x y is = cc

pub none_some : {X : Type 0} (x : X) → None ≡ Some x → ⊥
none_some x is = cc

pub all_set : {X : Type 0} (P : ℕ → X → Type 0) (xs : List X) (i : ℕ) (v : X) → ((j : ℕ) (x : X) → slice_get xs j ≡ Some x → P j x) → P i v → (j : ℕ) (x : X) → slice_get (slice_set xs i v) j ≡ Some x → P j x
all_set P [] i v all here j x is = absurd (none_some x is)
all_set P (y ∷ ys) zero v all here zero x is = subst (P zero) (some_same v x is) here
all_set P (y ∷ ys) zero v all here (suc j) x is = all (suc j) x is
all_set P (y ∷ ys) (suc i) v all here zero x is = all zero x is
all_set P (y ∷ ys) (suc i) v all here (suc j) x is = all_set (λ k z. P (suc k) z) ys i v (λ k z at. all (suc k) z at) here j x is

-- what a place holds
abbrev pub Holds : Layout → ℕ → Option UnitState → Type 0
Holds at g x = (u : UnitState) → x ≡ Some u → (u.group ≡ g) × IsUnit at u

pub set_units : (at : Layout) (us : List (Option UnitState)) (i : ℕ) (v : Option UnitState) → AreUnits at us → Holds at i v → AreUnits at (slice_set us i v)
set_units at us i v are here g u is = all_set (Holds at) us i v (λ j x e w s. are j w (e ∙ ap (λ (y : Option UnitState). Some y) s)) here g (Some u) is u refl

pub set_none : (at : Layout) (us : List (Option UnitState)) (i : ℕ) → AreUnits at us → AreUnits at (slice_set us i None)
set_none at us i are = set_units at us i None are (λ u e. absurd (none_some u e))

pub set_some : (at : Layout) (us : List (Option UnitState)) (i : ℕ) (u : UnitState) → AreUnits at us → u.group ≡ i → IsUnit at u → AreUnits at (slice_set us i (Some u))
set_some at us i u are group is = set_units at us i (Some u) are (λ w e. subst (λ (x : UnitState). (x.group ≡ i) × IsUnit at x) (some_same u w e) (group, is))

pub set_kept : (ks : List GroupKept) (i : ℕ) (k : GroupKept) → AreKept ks → IsKept k → AreKept (slice_set ks i k)
set_kept ks i k are here = all_set (λ _ x. IsKept x) ks i k are here
