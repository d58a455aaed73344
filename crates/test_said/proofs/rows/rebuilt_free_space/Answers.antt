use Rattle.std.proofs.Common.{refl, [], ◌∷◌, false, arith}
use Rattle.fs_change.specs.Changes.{judged, marked, reaped, reserved}
use Rattle.fs_change.specs.Choice.{extent}
use Rattle.fs_change.specs.Switch.{switched}
use Rattle.fs_model.specs.declared.fault.Fault.TheVariants.{Block}
use Rattle.fs_model.specs.declared.verdict.Verdict.TheVariants.{Good, Rebuilt}
use Rattle.fs_state.specs.State.{State}
use Rattle.sblock.specs.declared.block.BlockFault.TheVariants.{Checksum}
use Rattle.sblock.specs.declared.kind.Kind.TheVariants.{Bno}
use Rattle.test_said.specs.Accepted.{in_blocks}
use Rattle.test_said.proofs.Within.{refc_faults}
use Rattle.test_said.proofs.Stands.{fault_step, reap_step, reserve_step, switch_step, verdict_step}
use Rattle.test_states.specs.Images.{ag}
use Rattle.test_states.specs.Rows.{unread_free}
use Rattle.fs_model.specs.declared.unit.Unit.TheVariants as units
use Rattle.test_said.proofs.Computing.{computing}
use Rattle.test_said.proofs.rows.rebuilt_free_space.Goals as goal

pub returns : goal.returns
unfolding computing
returns c =
    let a1 : State = judged 0 units.Inode Good unread_free in
    let a2 : State = judged 0 units.Rmap Good a1 in
    let a3 : State = marked 0 Bno a2 in
    let a4 : State = reserved [] 0 units.Free 7 false a3 in
    let a5 : State = reserved [] 0 units.Free 8 false a4 in
    let a6 : State = switched a5 0 units.Free (in_blocks (7 ∷ []) (8 ∷ [])) in
    let a7 : State = judged 0 units.Free Rebuilt a6 in
    let a8 : State = reaped [] ag (extent 0 1 2) a7 in
    let a9 : State = judged 0 units.Refc Good a8 in
    (a9, (_, (record { behind = tt; so = (record { ready = refl; unbegun = refl }, refl, refl) }, [], a1, verdict_step unread_free units.Inode Good refl, tt, (record { behind = tt; so = (record { ready = refl; unbegun = refl }, refl, refl) }, [], a2, verdict_step a1 units.Rmap Good refl, tt, (record { behind = tt; so = ((refl, refl), [], refl) }, [], a3, fault_step a2 units.Free (Block Bno 1 Checksum) refl refl, tt, (record { behind = tt; so = record { judged = record { begins = tt; all_said = refl }; cause = omega arith } }, [], a4, reserve_step a3 units.Free 7 refl refl refl, tt, (record { behind = tt; so = record { judged = record { begins = tt; all_said = refl }; cause = omega arith } }, [], a5, reserve_step a4 units.Free 8 refl refl refl, tt, (record { behind = tt; so = record { judged = record { begins = tt; all_said = refl }; cause = omega arith } }, [], a6, switch_step a5 units.Free (in_blocks (7 ∷ []) (8 ∷ [])) 7 8 refl refl refl (record { same = λ b. refl; root = refl }, (record { same = λ b. refl; root = refl }, tt)) (refl, refl) refl, tt, (record { behind = refl; so = tt }, [], a7, verdict_step a6 units.Free Rebuilt refl, tt, (record { behind = tt; so = tt }, [], a8, reap_step a7 1 2 refl refl refl refl, tt, (record { behind = tt; so = (record { ready = refl; unbegun = refl }, refl, refc_faults a8 0 256 refl (omega arith)) }, [], a9, verdict_step a8 units.Refc Good refl, tt, (refl, refl))))))))))), record { order_kept = refl; verdicts = (tt, (tt, (tt, (tt, (tt, (tt, (tt, (tt, (tt, tt))))))))) })
