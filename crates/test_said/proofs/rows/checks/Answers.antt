use Rattle.std.proofs.Common.{refl, [], ◌∷◌, arith}
use Rattle.fs_change.specs.Changes.{judged, marked}
use Rattle.fs_model.specs.declared.fault.Fault.TheVariants.{Block, Missing, Extra}
use Rattle.fs_model.specs.declared.verdict.Verdict.TheVariants.{Good, Faulty}
use Rattle.fs_state.specs.State.{State}
use Rattle.sblock.specs.declared.block.BlockFault.TheVariants.{Checksum}
use Rattle.sblock.specs.declared.kind.Kind.TheVariants.{Bno}
use Rattle.test_said.proofs.Within.{refc_faults}
use Rattle.test_said.proofs.Stands.{fault_step, verdict_step}
use Rattle.test_states.specs.Images.{span, image_a}
use Rattle.test_states.specs.Rows.{unread_free, short_free, full}
use Rattle.fs_model.specs.declared.«record».AnyRec.TheVariants as recs
use Rattle.fs_model.specs.declared.unit.Unit.TheVariants as units
use Rattle.test_said.proofs.Computing.{computing}
use Rattle.test_said.proofs.rows.checks.Goals as goal

pub returns : goal.returns
unfolding computing
returns c = (
  let a1 : State = judged 0 units.Inode Good image_a in
      let a2 : State = judged 0 units.Rmap Good a1 in
      let a3 : State = judged 0 units.Free Good a2 in
      let a4 : State = judged 0 units.Refc Good a3 in
      (a4, (_, (record { behind = tt; so = (record { ready = refl; unbegun = refl }, refl, refl) }, [], a1, verdict_step image_a units.Inode Good refl, tt, (record { behind = tt; so = (record { ready = refl; unbegun = refl }, refl, refl) }, [], a2, verdict_step a1 units.Rmap Good refl, tt, (record { behind = tt; so = (record { ready = refl; unbegun = refl }, refl, refl) }, [], a3, verdict_step a2 units.Free Good refl, tt, (record { behind = tt; so = (record { ready = refl; unbegun = refl }, refl, refc_faults a3 0 256 refl (omega arith)) }, [], a4, verdict_step a3 units.Refc Good refl, tt, (refl, refl)))))), record { order_kept = refl; verdicts = (tt, (tt, (tt, (tt, tt)))) }),
  let a1 : State = judged 0 units.Inode Good short_free in
      let a2 : State = judged 0 units.Rmap Good a1 in
      let a3 : State = marked 0 Bno a2 in
      let a4 : State = marked 0 Bno a3 in
      let a5 : State = judged 0 units.Free (Faulty 2) a4 in
      let a6 : State = judged 0 units.Refc Good a5 in
      (a6, (_, (record { behind = tt; so = (record { ready = refl; unbegun = refl }, refl, refl) }, [], a1, verdict_step short_free units.Inode Good refl, tt, (record { behind = tt; so = (record { ready = refl; unbegun = refl }, refl, refl) }, [], a2, verdict_step a1 units.Rmap Good refl, tt, (record { behind = tt; so = ((refl, refl), (Extra (recs.Bno (span 32 223))) ∷ [], refl) }, [], a3, fault_step a2 units.Free (Missing (recs.Bno (span 32 224))) refl refl, tt, (record { behind = tt; so = (tt, [], refl) }, [], a4, fault_step a3 units.Free (Extra (recs.Bno (span 32 223))) refl refl, tt, (record { behind = tt; so = (record { begins = tt; all_said = refl }, refl, omega arith) }, [], a5, verdict_step a4 units.Free (Faulty 2) refl, tt, (record { behind = tt; so = (record { ready = refl; unbegun = refl }, refl, refc_faults a5 0 256 refl (omega arith)) }, [], a6, verdict_step a5 units.Refc Good refl, tt, (refl, refl)))))))), record { order_kept = refl; verdicts = (tt, (tt, (tt, (tt, (tt, (tt, tt)))))) }),
  let a1 : State = judged 0 units.Inode Good unread_free in
      let a2 : State = judged 0 units.Rmap Good a1 in
      let a3 : State = marked 0 Bno a2 in
      let a4 : State = judged 0 units.Free (Faulty 1) a3 in
      let a5 : State = judged 0 units.Refc Good a4 in
      (a5, (_, (record { behind = tt; so = (record { ready = refl; unbegun = refl }, refl, refl) }, [], a1, verdict_step unread_free units.Inode Good refl, tt, (record { behind = tt; so = (record { ready = refl; unbegun = refl }, refl, refl) }, [], a2, verdict_step a1 units.Rmap Good refl, tt, (record { behind = tt; so = ((refl, refl), [], refl) }, [], a3, fault_step a2 units.Free (Block Bno 1 Checksum) refl refl, tt, (record { behind = tt; so = (record { begins = tt; all_said = refl }, refl, omega arith) }, [], a4, verdict_step a3 units.Free (Faulty 1) refl, tt, (record { behind = tt; so = (record { ready = refl; unbegun = refl }, refl, refc_faults a4 0 256 refl (omega arith)) }, [], a5, verdict_step a4 units.Refc Good refl, tt, (refl, refl))))))), record { order_kept = refl; verdicts = (tt, (tt, (tt, (tt, (tt, tt))))) }),
  let a1 : State = judged 0 units.Inode Good full in
      let a2 : State = judged 0 units.Rmap Good a1 in
      let a3 : State = marked 0 Bno a2 in
      let a4 : State = judged 0 units.Free (Faulty 1) a3 in
      let a5 : State = judged 0 units.Refc Good a4 in
      (a5, (_, (record { behind = tt; so = (record { ready = refl; unbegun = refl }, refl, refl) }, [], a1, verdict_step full units.Inode Good refl, tt, (record { behind = tt; so = (record { ready = refl; unbegun = refl }, refl, refl) }, [], a2, verdict_step a1 units.Rmap Good refl, tt, (record { behind = tt; so = ((refl, refl), [], refl) }, [], a3, fault_step a2 units.Free (Block Bno 1 Checksum) refl refl, tt, (record { behind = tt; so = (record { begins = tt; all_said = refl }, refl, omega arith) }, [], a4, verdict_step a3 units.Free (Faulty 1) refl, tt, (record { behind = tt; so = (record { ready = refl; unbegun = refl }, refl, refc_faults a4 0 256 refl (omega arith)) }, [], a5, verdict_step a4 units.Refc Good refl, tt, (refl, refl))))))), record { order_kept = refl; verdicts = (tt, (tt, (tt, (tt, (tt, tt))))) }),
)
