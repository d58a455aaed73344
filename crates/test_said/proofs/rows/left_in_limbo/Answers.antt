use Rattle.std.proofs.Common.{refl, [], ◌∷◌, false, arith}
use Rattle.fs_change.specs.Changes.{judged, marked, reserved}
use Rattle.fs_change.specs.Switch.{switched}
use Rattle.fs_model.specs.declared.fault.Fault.TheVariants.{Missing}
use Rattle.fs_model.specs.declared.verdict.Verdict.TheVariants.{Good, Rebuilt}
use Rattle.fs_state.specs.State.{State}
use Rattle.sblock.specs.declared.kind.Kind.TheVariants.{Rmap}
use Rattle.test_said.specs.Accepted.{in_blocks}
use Rattle.test_said.proofs.Within.{refc_faults}
use Rattle.test_said.proofs.Stands.{fault_step, reserve_step, switch_step, verdict_step}
use Rattle.test_states.specs.Images.{mapped as owned, inodes}
use Rattle.test_states.specs.Rows.{short_rmap}
use Rattle.fs_model.specs.declared.«record».AnyRec.TheVariants as recs
use Rattle.fs_model.specs.declared.unit.Unit.TheVariants as units
use Rattle.test_said.proofs.Computing.{computing}
use Rattle.test_said.proofs.rows.left_in_limbo.Goals as goal

pub returns : goal.returns
unfolding computing
returns c =
    let a1 : State = judged 0 units.Inode Good short_rmap in
    let a2 : State = marked 0 Rmap a1 in
    let a3 : State = reserved [] 0 units.Rmap 7 false a2 in
    let a4 : State = switched a3 0 units.Rmap (in_blocks (7 ∷ []) []) in
    let a5 : State = judged 0 units.Rmap Rebuilt a4 in
    let a7 : State = judged 0 units.Free Good a5 in
    let a8 : State = judged 0 units.Refc Good a7 in
    (a8, (_, (record { behind = tt; so = (record { ready = refl; unbegun = refl }, refl, refl) }, [], a1, verdict_step short_rmap units.Inode Good refl, tt, (record { behind = tt; so = ((refl, refl), [], refl) }, [], a2, fault_step a1 units.Rmap (Missing (recs.Rmap (owned 24 8 inodes 0))) refl refl, tt, (record { behind = tt; so = record { judged = record { begins = tt; all_said = refl }; cause = omega arith } }, [], a3, reserve_step a2 units.Rmap 7 refl refl refl, tt, (record { behind = tt; so = record { judged = record { begins = tt; all_said = refl }; cause = omega arith } }, [], a4, switch_step a3 units.Rmap (in_blocks (7 ∷ []) []) 7 0 refl refl refl (record { same = λ b. refl; root = refl }, tt) (refl, refl) refl, tt, (record { behind = refl; so = tt }, [], a5, verdict_step a4 units.Rmap Rebuilt refl, tt, (record { behind = tt; so = (record { ready = refl; unbegun = refl }, refl, refl) }, [], a7, verdict_step a5 units.Free Good refl, tt, (record { behind = tt; so = (record { ready = refl; unbegun = refl }, refl, refc_faults a7 0 256 refl (omega arith)) }, [], a8, verdict_step a7 units.Refc Good refl, tt, (refl, refl))))))))), record { order_kept = refl; verdicts = (tt, (tt, (tt, (tt, (tt, (tt, (tt, tt))))))) }, refl, refl)
