use Rattle.std.proofs.Common.{refl, [], arith}
use Rattle.fs_change.specs.Changes.{judged, marked}
use Rattle.fs_model.specs.declared.fault.Fault.TheVariants.{Missing}
use Rattle.fs_model.specs.declared.verdict.Verdict.TheVariants.{Faulty, Skipped}
use Rattle.fs_state.specs.State.{State}
use Rattle.sblock.specs.declared.kind.Kind.TheVariants.{Ino}
use Rattle.test_said.proofs.Stands.{fault_step, verdict_step}
use Rattle.test_states.specs.Images.{chunk, mask}
use Rattle.test_states.specs.Rows.{short_ino}
use Rattle.fs_model.specs.declared.«record».AnyRec.TheVariants as recs
use Rattle.fs_model.specs.declared.unit.Unit.TheVariants as units
use Rattle.test_said.proofs.Computing.{computing}
use Rattle.test_said.proofs.rows.check_of_inodes.Goals as goal

pub returns : goal.returns
unfolding computing
returns c =
    let a1 : State = marked 0 Ino short_ino in
    let a2 : State = judged 0 units.Inode (Faulty 1) a1 in
    let a3 : State = judged 0 units.Rmap (Skipped 0 units.Inode) a2 in
    let a4 : State = judged 0 units.Free (Skipped 0 units.Rmap) a3 in
    let a5 : State = judged 0 units.Refc (Skipped 0 units.Rmap) a4 in
    (a5, (_, (record { behind = tt; so = ((refl, refl), [], refl) }, [], a1, fault_step short_ino units.Inode (Missing (recs.Ino (chunk 192 61 mask))) refl refl, tt, (record { behind = tt; so = (record { begins = tt; all_said = refl }, refl, omega arith) }, [], a2, verdict_step a1 units.Inode (Faulty 1) refl, tt, (record { behind = tt; so = refl }, [], a3, verdict_step a2 units.Rmap (Skipped 0 units.Inode) refl, tt, (record { behind = tt; so = refl }, [], a4, verdict_step a3 units.Free (Skipped 0 units.Rmap) refl, tt, (record { behind = tt; so = refl }, [], a5, verdict_step a4 units.Refc (Skipped 0 units.Rmap) refl, tt, (refl, refl))))))), record { order_kept = refl; verdicts = (tt, (tt, (refl, (refl, (refl, tt))))) })
