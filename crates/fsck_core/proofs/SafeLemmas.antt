-- What every event keeps, when its parts are put together again.
use Rattle.std.proofs.Common.{◌≡◌, ◌∙◌, ℕ, refl, sym, ap, subst, length-set}
use Rattle.std.specs.Global.{Vec}
use Rattle.std.specs.Prelude.{List, Option, Some, None, length, slice_set}
use Rattle.std.specs.List.{slice_get}
use Rattle.blk_device.specs.declared.device.Device.{Ghosts}
use Rattle.core_calls.specs.declared.answers.Answer.{Answer}
use Rattle.core_parts.proofs.common.AskLemmas.{steady_self}
use Rattle.core_parts.specs.Keeps.{IsSteady}
use Rattle.core_parts.specs.Safe.{AreUnits, IsDesk, IsKept, IsSafe, IsUnit}
use Rattle.core_parts.specs.declared.desk.Desk.{Desk}
use Rattle.core_parts.specs.declared.groups.GroupKept.{GroupKept}
use Rattle.core_parts.specs.declared.parts.Parts.{Parts}
use Rattle.core_parts.specs.declared.units.UnitState.{UnitState}
use Rattle.fsck_core.proofs.Places.{none_some, set_kept, set_none, set_some}
use Rattle.fsck_core.specs.Acts.{Acts, IsGivenAll, IsLeftAll, IsWorked, StaysShut, TellsAll}
use Rattle.geom.specs.Places.{layout}
use Rattle.geom.specs.declared.geometry.Geometry.{Geometry}

module _ {D : Type 0} (d : Ghosts D) where
  same_count : (a b : Geometry) → b ≡ a → a.agcount ≡ b.agcount
  same_count a b is = ap (λ (x : Geometry). x.agcount) (sym is)

  units_on : (a b : Geometry) (us : List (Option UnitState)) → b ≡ a → AreUnits (layout a) us → AreUnits (layout b) us
  units_on a b us is are = subst (λ (x : Geometry). AreUnits (layout x) us) (sym is) are

  -- where no fault was noted before, none is forgotten
  pub shut_on : (old new : Desk D) → old.book.shut ≡ None → StaysShut old new
  shut_on old new unshut n is = absurd (none_some n (sym unshut ∙ is))

  -- ---- one place is emptied

  pub taken_safe : (p : Parts D) (g : ℕ) (us : Vec (Option UnitState)) → IsSafe d p → us.items ≡ slice_set p.units.items g None → IsSafe d (record p { units = us })
  taken_safe p g us s is = record {
    desk = s.desk;
    groups = s.groups;
    units = ap length is ∙ (length-set p.units.items g None ∙ s.units);
    works = subst (AreUnits (layout p.desk.store.geo)) (sym is) (set_none (layout p.desk.store.geo) p.units.items g s.works);
    limbos = s.limbos;
  }

  pub taken_unit : (p : Parts D) (g : ℕ) (u : UnitState) → IsSafe d p → slice_get p.units.items g ≡ Some (Some u) → IsUnit (layout p.desk.store.geo) u
  taken_unit p g u s is = (s.works g u is).1

  pub self_acts : (p q : Parts D) (a : Answer) → IsSafe d q → q.desk ≡ p.desk → TellsAll q.desk a → Acts d p q a
  self_acts p q a s same told = record {
    safe = s;
    steady = subst (λ (k : Desk D). IsSteady d p.desk k) (sym same) (steady_self d p.desk);
    told = told;
    shut = λ n is. ap (λ (k : Desk D). k.book.shut) same ∙ is;
  }

  -- ---- an event of one unit, with what is kept of its group

  pub one_left : (old new : Desk D) (was ks : List GroupKept) (kept : GroupKept) (u : UnitState) → IsGivenAll d old was u → IsDesk d new → IsSteady d old new → IsKept kept → ks ≡ slice_set was u.group kept → IsLeftAll d old new was ks
  one_left old new was ks kept u given desk steady is_kept is = record {
    desk = desk;
    steady = steady;
    groups = ap length is ∙ length-set was u.group kept;
    kept = subst (λ (xs : List GroupKept). (g : ℕ) (k : GroupKept) → slice_get xs g ≡ Some k → IsKept k) (sym is) (set_kept was u.group kept given.kept is_kept);
  }

  -- ---- put together again

  pub left_safe : (p : Parts D) (k : Desk D) (ks : Vec GroupKept) → IsSafe d p → IsLeftAll d p.desk k p.groups.items ks.items → IsSafe d (record p { desk = k; groups = ks })
  left_safe p k ks s left = record {
    desk = left.desk;
    groups = left.groups ∙ (s.groups ∙ same_count p.desk.store.geo k.store.geo left.steady.geometry);
    units = s.units ∙ same_count p.desk.store.geo k.store.geo left.steady.geometry;
    works = units_on p.desk.store.geo k.store.geo p.units.items left.steady.geometry s.works;
    limbos = left.kept;
  }

  pub put_safe : (p : Parts D) (us : Vec (Option UnitState)) (u : UnitState) → IsSafe d p → IsUnit (layout p.desk.store.geo) u → us.items ≡ slice_set p.units.items u.group (Some u) → IsSafe d (record p { units = us })
  put_safe p us u s unit is = record {
    desk = s.desk;
    groups = s.groups;
    units = ap length is ∙ (length-set p.units.items u.group (Some u) ∙ s.units);
    works = subst (AreUnits (layout p.desk.store.geo)) (sym is) (set_some (layout p.desk.store.geo) p.units.items u.group u s.works refl unit);
    limbos = s.limbos;
  }

  pub worked_acts : (p : Parts D) (k : Desk D) (ks : Vec GroupKept) (us : Vec (Option UnitState)) (u v : UnitState) (a : Answer) → IsSafe d p → p.desk.book.shut ≡ None → IsWorked d p.desk k p.groups.items ks.items u v → TellsAll k a → us.items ≡ slice_set p.units.items v.group (Some v) → Acts d p (record { desk = k; groups = ks; units = us }) a
  worked_acts p k ks us u v a s unshut worked told put = record {
    safe = put_safe (record p { desk = k; groups = ks }) us v (left_safe p k ks s worked.all) worked.unit put;
    steady = worked.all.steady;
    told = told;
    shut = shut_on p.desk k unshut;
  }

  pub left_acts : (p : Parts D) (k : Desk D) (ks : Vec GroupKept) (a : Answer) → IsSafe d p → p.desk.book.shut ≡ None → IsLeftAll d p.desk k p.groups.items ks.items → TellsAll k a → Acts d p (record p { desk = k; groups = ks }) a
  left_acts p k ks a s unshut left told = record {
    safe = left_safe p k ks s left;
    steady = left.steady;
    told = told;
    shut = shut_on p.desk k unshut;
  }
