use Rattle.std.proofs.Common.{refl, [], arith}
use Rattle.fs_change.specs.Changes.{judged, marked}
use Rattle.fs_model.specs.declared.fault.Fault.TheVariants.{Block}
use Rattle.fs_model.specs.declared.verdict.Reason.TheVariants.{Space}
use Rattle.fs_model.specs.declared.verdict.Verdict.TheVariants.{Good, GaveUp}
use Rattle.fs_state.specs.State.{State}
use Rattle.sblock.specs.declared.block.BlockFault.TheVariants.{Checksum}
use Rattle.sblock.specs.declared.kind.Kind.TheVariants.{Bno}
use Rattle.test_said.proofs.Within.{refc_faults}
use Rattle.test_said.proofs.Stands.{fault_step, verdict_step}
use Rattle.test_states.specs.Rows.{full}
use Rattle.fs_model.specs.declared.unit.Unit.TheVariants as units
use Rattle.test_said.proofs.Computing.{computing}
use Rattle.test_said.proofs.rows.no_block_left.Goals as goal

pub returns : goal.returns
unfolding computing
returns c =
    let a1 : State = judged 0 units.Inode Good full in
    let a2 : State = judged 0 units.Rmap Good a1 in
    let a3 : State = marked 0 Bno a2 in
    let a4 : State = judged 0 units.Free (GaveUp (Space 0 2)) a3 in
    let a5 : State = judged 0 units.Refc Good a4 in
    (a5, (_, (record { behind = tt; so = (record { ready = refl; unbegun = refl }, refl, refl) }, [], a1, verdict_step full units.Inode Good refl, tt, (record { behind = tt; so = (record { ready = refl; unbegun = refl }, refl, refl) }, [], a2, verdict_step a1 units.Rmap Good refl, tt, (record { behind = tt; so = ((refl, refl), [], refl) }, [], a3, fault_step a2 units.Free (Block Bno 1 Checksum) refl refl, tt, (record { behind = tt; so = (record { judged = record { begins = tt; all_said = refl }; cause = omega arith }, record { own = refl; have = refl; need_is = refl; less = omega arith; listed = refl; spare = refl }) }, [], a4, verdict_step a3 units.Free (GaveUp (Space 0 2)) refl, tt, (record { behind = tt; so = (record { ready = refl; unbegun = refl }, refl, refc_faults a4 0 256 refl (omega arith)) }, [], a5, verdict_step a4 units.Refc Good refl, tt, (refl, refl))))))), record { order_kept = refl; verdicts = (tt, (tt, (tt, (tt, (tt, tt))))) })
