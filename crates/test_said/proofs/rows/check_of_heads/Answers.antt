use Rattle.std.proofs.Common.{refl, []}
use Rattle.fs_change.specs.Changes.{judged}
use Rattle.fs_model.specs.declared.claim.Claim.TheVariants.{Heads, Data}
use Rattle.fs_model.specs.declared.claim.Evidence.TheVariants.{Overlap}
use Rattle.fs_model.specs.declared.verdict.Reason.TheVariants.{Contradiction}
use Rattle.fs_model.specs.declared.verdict.Verdict.TheVariants.{Good, Skipped, GaveUp}
use Rattle.fs_state.specs.State.{State}
use Rattle.test_said.proofs.Stands.{verdict_step}
use Rattle.test_states.specs.Rows.{on_heads}
use Rattle.fs_model.specs.declared.unit.Unit.TheVariants as units
use Rattle.test_said.proofs.Computing.{computing}
use Rattle.test_said.proofs.rows.check_of_heads.Goals as goal

pub returns : goal.returns
unfolding computing
returns c = (
  let a1 : State = judged 0 units.Inode Good on_heads in
      let a2 : State = judged 0 units.Rmap (GaveUp (Contradiction (Overlap 0 Heads (Data 195)))) a1 in
      let a3 : State = judged 0 units.Free (Skipped 0 units.Rmap) a2 in
      let a4 : State = judged 0 units.Refc (Skipped 0 units.Rmap) a3 in
      (a4, (_, (record { behind = tt; so = (record { ready = refl; unbegun = refl }, refl, refl) }, [], a1, verdict_step on_heads units.Inode Good refl, tt, (record { behind = tt; so = (record { ready = refl; unbegun = refl }, Overlap 0 Heads (Data 195), refl, refl) }, [], a2, verdict_step a1 units.Rmap (GaveUp (Contradiction (Overlap 0 Heads (Data 195)))) refl, tt, (record { behind = tt; so = refl }, [], a3, verdict_step a2 units.Free (Skipped 0 units.Rmap) refl, tt, (record { behind = tt; so = refl }, [], a4, verdict_step a3 units.Refc (Skipped 0 units.Rmap) refl, tt, (refl, refl)))))), record { order_kept = refl; verdicts = (tt, (tt, (refl, (refl, tt)))) }),
  let a1 : State = judged 0 units.Inode Good on_heads in
      let a2 : State = judged 0 units.Rmap (GaveUp (Contradiction (Overlap 0 Heads (Data 195)))) a1 in
      let a3 : State = judged 0 units.Free (Skipped 0 units.Rmap) a2 in
      let a4 : State = judged 0 units.Refc (Skipped 0 units.Rmap) a3 in
      (a4, (_, (record { behind = tt; so = (record { ready = refl; unbegun = refl }, refl, refl) }, [], a1, verdict_step on_heads units.Inode Good refl, tt, (record { behind = tt; so = (record { ready = refl; unbegun = refl }, Overlap 0 Heads (Data 195), refl, refl) }, [], a2, verdict_step a1 units.Rmap (GaveUp (Contradiction (Overlap 0 Heads (Data 195)))) refl, tt, (record { behind = tt; so = refl }, [], a3, verdict_step a2 units.Free (Skipped 0 units.Rmap) refl, tt, (record { behind = tt; so = refl }, [], a4, verdict_step a3 units.Refc (Skipped 0 units.Rmap) refl, tt, (refl, refl)))))), record { order_kept = refl; verdicts = (tt, (tt, (refl, (refl, tt)))) }),
)
