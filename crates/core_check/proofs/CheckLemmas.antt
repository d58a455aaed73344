-- What a piece leaves, from what its calls left.
use Rattle.std.proofs.Common.{ℕ, sym, subst}
use Rattle.blk_device.specs.declared.device.Device.{Ghosts}
use Rattle.core_parts.proofs.common.AskLemmas.{steady_self}
use Rattle.core_parts.specs.Common.Asks.{IsUsable}
use Rattle.core_units.specs.Judging.{IsJudging}
use Rattle.core_units.specs.declared.compare.Place.{Place}
use Rattle.core_units.specs.declared.judging.Judging.{Judging}
use Rattle.core_parts.specs.Keeps.{IsSteady}
use Rattle.core_parts.specs.Reasons.{AnswersWell}
use Rattle.core_parts.specs.Safe.{IsDesk, IsWork}
use Rattle.core_parts.specs.declared.desk.Desk.{Desk}
use Rattle.geom.specs.Layout.{Layout}
use Rattle.geom.specs.Places.{layout}
use Rattle.geom.specs.declared.geometry.Geometry.{Geometry}
use Rattle.core_check.specs.Leaves.{Leaves}
use Rattle.core_check.specs.declared.work.Left.{Left}

-- a comparison that is put back to where it stood can still be compared
pub restored : (at : Layout) (g : ℕ) (judging : Judging) (place : Place) (found : ℕ) → IsJudging at g judging → IsJudging at g (record judging { at = place; found = found })
restored at g judging place found is = record { trees = is.trees; spare = is.spare; within = is.within; unit = is.unit; comparable = is.comparable; fit = is.fit; chunks = is.chunks }

module _ {D : Type 0} (d : Ghosts D) where
  -- what is left once a call has answered
  pub leaves_at : (old new : Desk D) (g : ℕ) (left : Left) → IsDesk d new → IsSteady d old new → IsWork (layout old.store.geo) g left.work → AnswersWell new left.answer → Leaves d old new g left
  leaves_at old new g left desk steady work reason = record {
    desk = desk;
    steady = steady;
    work = subst (λ (geo : Geometry). IsWork (layout geo) g left.work) (sym steady.geometry) work;
    reason = reason;
  }

  -- what is left where nothing was asked
  pub leaves_self : (old : Desk D) (g : ℕ) (left : Left) → IsUsable d old → IsWork (layout old.store.geo) g left.work → AnswersWell old left.answer → Leaves d old old g left
  leaves_self old g left u work reason = record { desk = u.desk; steady = steady_self d old; work = work; reason = reason }
