-- What an event of a writer keeps of all parts, when they are put together again.
use Rattle.std.proofs.Common.{◌≡◌, ◌∙◌, ℕ, refl, sym, ap, subst, length-set}
use Rattle.std.specs.Global.{Vec}
use Rattle.std.specs.Prelude.{List, Option, None, Some, Result, Ok, Err, OnOk, length, slice_set}
use Rattle.std.specs.List.{slice_get}
use Rattle.blk_device.specs.declared.device.Device.{Ghosts}
use Rattle.core_calls.specs.declared.answers.WriteFault.{WriteFault}
use Rattle.core_parts.proofs.common.AskLemmas.{steady_on, steady_self}
use Rattle.core_parts.specs.Common.Asks.{IsUsable}
use Rattle.core_parts.specs.Keeps.{IsSteady}
use Rattle.core_parts.specs.Safe.{AreKept, AreUnits, IsDesk, IsKept, IsSafe}
use Rattle.core_parts.specs.declared.desk.Desk.{Desk}
use Rattle.core_parts.specs.declared.groups.GroupKept.{GroupKept}
use Rattle.core_parts.specs.declared.parts.Parts.{Parts}
use Rattle.core_parts.specs.declared.units.UnitState.{UnitState}
use Rattle.core_chains.proofs.write.Places.{none_some, set_kept}
use Rattle.core_chains.specs.Write.Writes.{IsGivenAll, IsLeftAll, StaysShut, WriteAnswers, WriteParts, WritesWell}
use Rattle.geom.specs.Places.{layout}
use Rattle.geom.specs.declared.geometry.Geometry.{Geometry}

module _ {D : Type 0} (d : Ghosts D) where
  same_count : (a b : Geometry) → b ≡ a → a.agcount ≡ b.agcount
  same_count a b is = ap (λ (x : Geometry). x.agcount) (sym is)

  units_on : (a b : Geometry) (us : List (Option UnitState)) → b ≡ a → AreUnits (layout a) us → AreUnits (layout b) us
  units_on a b us is are = subst (λ (x : Geometry). AreUnits (layout x) us) (sym is) are

  -- where no fault was noted before, none is forgotten
  pub shut_on : (old new : Desk D) → old.book.shut ≡ None → StaysShut old new
  shut_on old new unshut n is = absurd (none_some n (sym unshut ∙ is))

  -- ---- a call that leaves a desk, and one more

  pub answers_on : {S T : Type 0} (old mid new : Desk D) (first : Result S WriteFault) (last : Result T WriteFault) → WriteAnswers d old mid first → WriteAnswers d mid new last → WriteAnswers d old new last
  answers_on old mid new first last a b = record { desk = b.desk; steady = steady_on d old mid new a.steady b.steady; reason = b.reason; unshut = b.unshut }

  unshut_of : {T : Type 0} (k : Desk D) (answer : Result T WriteFault) → IsUsable d k → OnOk answer (k.book.shut ≡ None)
  unshut_of k (Ok x) u = u.unshut
  unshut_of k (Err e) u = tt

  pub answers_self : {T : Type 0} (k : Desk D) (answer : Result T WriteFault) → IsUsable d k → WritesWell k answer → WriteAnswers d k k answer
  answers_self k answer u well = record { desk = u.desk; steady = steady_self d k; reason = well; unshut = unshut_of k answer u }

  -- ---- all groups

  -- what is kept of one of the groups
  pub given_kept : (k : Desk D) (ks : List GroupKept) (g : ℕ) (p : GroupKept) → IsGivenAll d k ks → slice_get ks g ≡ Some p → IsKept p
  given_kept k ks g p given at = given.kept g p at

  pub one_left : (old new : Desk D) (was ks : List GroupKept) (g : ℕ) (kept : GroupKept) → AreKept was → IsDesk d new → IsSteady d old new → IsKept kept → ks ≡ slice_set was g kept → IsLeftAll d old new was ks
  one_left old new was ks g kept are desk steady is_kept is = record {
    desk = desk;
    steady = steady;
    groups = ap length is ∙ length-set was g kept;
    kept = subst AreKept (sym is) (set_kept was g kept are is_kept);
  }

  -- no group's changed
  pub none_left : (old new : Desk D) (was : List GroupKept) → AreKept was → IsDesk d new → IsSteady d old new → IsLeftAll d old new was was
  none_left old new was are desk steady = record { desk = desk; steady = steady; groups = refl; kept = are }

  pub left_on : (old mid new : Desk D) (was between ks : List GroupKept) → IsLeftAll d old mid was between → IsLeftAll d mid new between ks → IsLeftAll d old new was ks
  left_on old mid new was between ks a b = record { desk = b.desk; steady = steady_on d old mid new a.steady b.steady; groups = b.groups ∙ a.groups; kept = b.kept }

  -- ---- all parts

  pub given_of : (p : Parts D) → IsSafe d p → p.desk.book.shut ≡ None → IsGivenAll d p.desk p.groups.items
  given_of p s unshut = record { usable = record { desk = s.desk; unshut = unshut }; groups = s.groups; kept = s.limbos }

  -- the units are as they were
  pub left_parts : {T : Type 0} (p : Parts D) (k : Desk D) (ks : Vec GroupKept) (answer : Result T WriteFault) → IsSafe d p → p.desk.book.shut ≡ None → IsLeftAll d p.desk k p.groups.items ks.items → WritesWell k answer → WriteParts d p (record p { desk = k; groups = ks }) answer
  left_parts p k ks answer s unshut left well = record {
    safe = record {
      desk = left.desk;
      groups = left.groups ∙ (s.groups ∙ same_count p.desk.store.geo k.store.geo left.steady.geometry);
      units = s.units ∙ same_count p.desk.store.geo k.store.geo left.steady.geometry;
      works = units_on p.desk.store.geo k.store.geo p.units.items left.steady.geometry s.works;
      limbos = left.kept;
    };
    steady = left.steady;
    reason = well;
    shut = shut_on p.desk k unshut;
  }

  -- the units changed, and are still those of their groups
  pub worked_parts : {T : Type 0} (p : Parts D) (k : Desk D) (ks : Vec GroupKept) (us : Vec (Option UnitState)) (answer : Result T WriteFault) → IsSafe d p → p.desk.book.shut ≡ None → IsLeftAll d p.desk k p.groups.items ks.items → length us.items ≡ length p.units.items → AreUnits (layout p.desk.store.geo) us.items → WritesWell k answer
      → WriteParts d p (record { desk = k; groups = ks; units = us }) answer
  worked_parts p k ks us answer s unshut left many are well = record {
    safe = record {
      desk = left.desk;
      groups = left.groups ∙ (s.groups ∙ same_count p.desk.store.geo k.store.geo left.steady.geometry);
      units = many ∙ (s.units ∙ same_count p.desk.store.geo k.store.geo left.steady.geometry);
      works = units_on p.desk.store.geo k.store.geo us.items left.steady.geometry are;
      limbos = left.kept;
    };
    steady = left.steady;
    reason = well;
    shut = shut_on p.desk k unshut;
  }

  -- nothing changed
  pub same_parts : {T : Type 0} (p : Parts D) (answer : Result T WriteFault) → IsSafe d p → WritesWell p.desk answer → WriteParts d p p answer
  same_parts p answer s well = record { safe = s; steady = steady_self d p.desk; reason = well; shut = λ n is. is }

  -- the desk alone changed
  pub desk_parts : {T : Type 0} (p : Parts D) (k : Desk D) (answer : Result T WriteFault) → IsSafe d p → p.desk.book.shut ≡ None → WriteAnswers d p.desk k answer → WriteParts d p (record p { desk = k }) answer
  desk_parts p k answer s unshut a = record {
    safe = record {
      desk = a.desk;
      groups = s.groups ∙ same_count p.desk.store.geo k.store.geo a.steady.geometry;
      units = s.units ∙ same_count p.desk.store.geo k.store.geo a.steady.geometry;
      works = units_on p.desk.store.geo k.store.geo p.units.items a.steady.geometry s.works;
      limbos = s.limbos;
    };
    steady = a.steady;
    reason = a.reason;
    shut = shut_on p.desk k unshut;
  }

  -- ---- a loop of calls

  pub loop_answers : {T : Type 0} (old mid new : Desk D) (last : Result T WriteFault) → IsSteady d old mid → WriteAnswers d mid new last → WriteAnswers d old new last
  loop_answers old mid new last steady a = record { desk = a.desk; steady = steady_on d old mid new steady a.steady; reason = a.reason; unshut = a.unshut }

  pub loop_usable : {T : Type 0} (old new : Desk D) (x : T) → WriteAnswers {D = D} {T = T} d old new (Ok x) → IsUsable d new
  loop_usable old new x a = record { desk = a.desk; unshut = a.unshut }
