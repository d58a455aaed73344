use Rattle.std.proofs.Common.{refl, [], ◌∷◌, false, arith}
use Rattle.fs_change.specs.Changes.{judged, marked, reaped, reserved}
use Rattle.fs_change.specs.Choice.{extent}
use Rattle.fs_change.specs.Switch.{switched}
use Rattle.fs_model.specs.declared.fault.Fault.TheVariants.{Missing}
use Rattle.fs_model.specs.declared.verdict.Verdict.TheVariants.{Good, Rebuilt}
use Rattle.fs_state.specs.State.{State}
use Rattle.sblock.specs.declared.kind.Kind.TheVariants.{Ino}
use Rattle.test_said.specs.Accepted.{in_blocks}
use Rattle.test_said.proofs.Within.{refc_faults}
use Rattle.test_said.proofs.Stands.{fault_step, reap_step, reserve_step, switch_step, verdict_step}
use Rattle.test_states.specs.Images.{inobt, chunk, mask}
use Rattle.test_states.specs.Rows.{short_ino}
use Rattle.fs_model.specs.declared.«record».AnyRec.TheVariants as recs
use Rattle.fs_model.specs.declared.unit.Unit.TheVariants as units
use Rattle.test_said.proofs.Computing.{computing}
use Rattle.test_said.proofs.rows.rebuilt_inodes.Goals as goal

pub returns : goal.returns
unfolding computing
returns c =
    let a1 : State = marked 0 Ino short_ino in
    let a2 : State = reserved [] 0 units.Inode 7 false a1 in
    let a3 : State = reserved [] 0 units.Inode 8 false a2 in
    let a4 : State = switched a3 0 units.Inode (in_blocks (7 ∷ []) (8 ∷ [])) in
    let a5 : State = judged 0 units.Inode Rebuilt a4 in
    let a6 : State = judged 0 units.Rmap Good a5 in
    let a7 : State = reaped [] inobt (extent 0 3 2) a6 in
    let a8 : State = judged 0 units.Free Good a7 in
    let a9 : State = judged 0 units.Refc Good a8 in
    (a9, (_, (record { behind = tt; so = ((refl, refl), [], refl) }, [], a1, fault_step short_ino units.Inode (Missing (recs.Ino (chunk 192 61 mask))) refl refl, tt, (record { behind = tt; so = record { judged = record { begins = tt; all_said = refl }; cause = omega arith } }, [], a2, reserve_step a1 units.Inode 7 refl refl refl, tt, (record { behind = tt; so = record { judged = record { begins = tt; all_said = refl }; cause = omega arith } }, [], a3, reserve_step a2 units.Inode 8 refl refl refl, tt, (record { behind = tt; so = record { judged = record { begins = tt; all_said = refl }; cause = omega arith } }, [], a4, switch_step a3 units.Inode (in_blocks (7 ∷ []) (8 ∷ [])) 7 8 refl refl refl (record { same = λ b. refl; root = refl }, (record { same = λ b. refl; root = refl }, tt)) (refl, refl) refl, tt, (record { behind = refl; so = tt }, [], a5, verdict_step a4 units.Inode Rebuilt refl, tt, (record { behind = tt; so = (record { ready = refl; unbegun = refl }, refl, refl) }, [], a6, verdict_step a5 units.Rmap Good refl, tt, (record { behind = tt; so = tt }, [], a7, reap_step a6 3 2 refl refl refl refl, tt, (record { behind = tt; so = (record { ready = refl; unbegun = refl }, refl, refl) }, [], a8, verdict_step a7 units.Free Good refl, tt, (record { behind = tt; so = (record { ready = refl; unbegun = refl }, refl, refc_faults a8 0 256 refl (omega arith)) }, [], a9, verdict_step a8 units.Refc Good refl, tt, (refl, refl))))))))))), record { order_kept = refl; verdicts = (tt, (tt, (tt, (tt, (tt, (tt, (tt, (tt, (tt, tt))))))))) })
