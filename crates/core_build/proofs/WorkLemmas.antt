-- What is left of a unit after a piece of its reserving or staging.
use Rattle.std.proofs.Common.{◌≡◌, ◌<◌, ℕ, refl, sym, subst}
use Rattle.std.specs.Prelude.{Bool, true, false, IfOk, IfSome, Option, Some, None, Result, Ok, Err, IsErr, IsErrAnd}
use Rattle.block_reap.specs.Limbo.{IsLimbo}
use Rattle.blk_device.specs.declared.device.Device.{Ghosts}
use Rattle.geom.specs.Layout.{Layout}
use Rattle.geom.specs.Places.{layout}
use Rattle.geom.specs.declared.geometry.Geometry.{Geometry}
use Rattle.core_calls.specs.declared.answers.ScrubFault.{ScrubFault}
use Rattle.core_calls.specs.declared.answers.ScrubFault.TheVariants as faults
use Rattle.core_parts.proofs.common.AskLemmas.{steady_self}
use Rattle.core_parts.proofs.common.EntryLemmas.{with_err}
use Rattle.core_parts.specs.Common.Asks.{Answers, IsUsable}
use Rattle.core_parts.specs.Keeps.{IsGiven, IsLeft}
use Rattle.core_parts.specs.Safe.{IsKept, IsUnit, IsWork}
use Rattle.core_parts.specs.declared.desk.Desk.{Desk}
use Rattle.core_parts.specs.declared.groups.GroupKept.{GroupKept}
use Rattle.core_parts.specs.declared.units.UnitState.{UnitState}
use Rattle.core_units.specs.Rebuilt.{IsRebuilding, IsReserved}
use Rattle.core_units.specs.Staged.{IsAt}
use Rattle.core_units.specs.declared.rebuild.Rebuild.{Rebuild}
use Rattle.core_units.specs.declared.released.Staged.{Staged}
use Rattle.core_units.specs.declared.stage.Staging.{Staging}
use Rattle.core_build.specs.Pieces.{MetBy, staged_by, work_by}

-- after a refusal it still is a rebuild
refused_fits : (at : Layout) (g : ℕ) (r : Rebuild) (f : ScrubFault) → IsRebuilding at g r → IsWork at g (work_by r (Err f))
refused_fits at g r (faults.Busy ino) b = b
refused_fits at g r (faults.Draining g2 n) b = b
refused_fits at g r (faults.UnitOpen g2 unit) b = b
refused_fits at g r (faults.Skipped g2 unit) b = b
refused_fits at g r (faults.GaveUp reason) b = b
refused_fits at g r (faults.OtherPhase phase) b = b
refused_fits at g r faults.JournalFull b = b
refused_fits at g r (faults.Shut n) b = b
refused_fits at g r faults.Memory b = b

-- the work fits, whatever was answered
pub work_fits : (at : Layout) (g : ℕ) (r : Rebuild) (answer : Result Bool ScrubFault) → IsRebuilding at g r → MetBy answer r → IsWork at g (work_by r answer)
work_fits at g r (Ok true) b met = (record { rebuilding = b; ready = (met refl).ready }, (met refl).begins)
work_fits at g r (Ok false) b met = b
work_fits at g r (Err f) b met = refused_fits at g r f b

-- nor does a piece of the staging spoil it
pub staged_fits : (at : Layout) (g : ℕ) (r : Rebuild) (s : Staging) (made : Result (Option Staged) ScrubFault) → IsReserved at g r → IsAt r.building.lists s → IfOk made (λ m. IfSome m (λ staged. IsLimbo staged.limbo.items)) → IsWork at g (staged_by r s made)
staged_fits at g r s (Ok (Some staged)) reserved stands limbo = (reserved.rebuilding, limbo)
staged_fits at g r s (Ok None) reserved stands limbo = (reserved, stands)
staged_fits at g r s (Err fault) reserved stands limbo = (reserved, stands)

module _ {D : Type 0} (d : Ghosts D) where
  -- the unit has this work now
  pub left_by : {T : Type 0} (old new : Desk D) (p : GroupKept) (was u : UnitState) (result : Result T ScrubFault) → Answers d old new result → IsKept p → u.group ≡ was.group → was.group < old.store.geo.agcount → IsWork (layout old.store.geo) was.group u.work → IsLeft d old new p was u
  left_by old new p was u result a kept group inside work = record {
    desk = a.desk;
    steady = a.steady;
    kept = kept;
    unit = subst (λ (x : Geometry). IsUnit (layout x) u) (sym a.steady.geometry) (record {
      inside = subst (λ (n : ℕ). n < old.store.geo.agcount) (sym group) inside;
      work = subst (λ (n : ℕ). IsWork (layout old.store.geo) n u.work) (sym group) work;
    });
    group = group;
  }

  -- without memory nothing is done
  pub memory_answers : {T : Type 0} (k : Desk D) (fault : ScrubFault) (r : Result T ScrubFault) → IsUsable d k → fault ≡ faults.Memory → IsErr r × IsErrAnd r (λ e. e ≡ fault) → Answers d k k r
  memory_answers {T} k fault r u is exit =
      with_err (λ x. Answers d k k x) fault r exit
      (subst (λ (f : ScrubFault). Answers {T = T} d k k (Err f)) (sym is) (record { desk = u.desk; steady = steady_self d k; reason = tt; unshut = tt }))

  -- nothing changed
  pub left_same : (k : Desk D) (p : GroupKept) (u : UnitState) → IsGiven d k p u → IsLeft d k k p u u
  left_same k p u given = record {
    desk = given.desk;
    steady = steady_self d k;
    kept = given.kept;
    unit = given.unit;
    group = refl;
  }
