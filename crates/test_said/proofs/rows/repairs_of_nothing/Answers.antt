use Rattle.std.proofs.Common.{refl, [], arith}
use Rattle.fs_change.specs.Changes.{judged}
use Rattle.fs_model.specs.declared.verdict.Verdict.TheVariants.{Good}
use Rattle.fs_state.specs.State.{State}
use Rattle.test_said.proofs.Within.{refc_faults}
use Rattle.test_said.proofs.Stands.{verdict_step}
use Rattle.test_states.specs.Images.{image_a}
use Rattle.fs_model.specs.declared.unit.Unit.TheVariants as units
use Rattle.test_said.proofs.Computing.{computing}
use Rattle.test_said.proofs.rows.repairs_of_nothing.Goals as goal

pub returns : goal.returns
unfolding computing
returns c =
    let a1 : State = judged 0 units.Inode Good image_a in
    let a2 : State = judged 0 units.Rmap Good a1 in
    let a3 : State = judged 0 units.Free Good a2 in
    let a4 : State = judged 0 units.Refc Good a3 in
    (a4, (_, (record { behind = tt; so = (record { ready = refl; unbegun = refl }, refl, refl) }, [], a1, verdict_step image_a units.Inode Good refl, tt, (record { behind = tt; so = (record { ready = refl; unbegun = refl }, refl, refl) }, [], a2, verdict_step a1 units.Rmap Good refl, tt, (record { behind = tt; so = (record { ready = refl; unbegun = refl }, refl, refl) }, [], a3, verdict_step a2 units.Free Good refl, tt, (record { behind = tt; so = (record { ready = refl; unbegun = refl }, refl, refc_faults a3 0 256 refl (omega arith)) }, [], a4, verdict_step a3 units.Refc Good refl, tt, (refl, refl)))))), record { order_kept = refl; verdicts = (tt, (tt, (tt, (tt, tt)))) })
