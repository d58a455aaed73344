use Rattle.std.proofs.Common.{refl, [], arith}
use Rattle.fs_change.specs.Changes.{judged, marked}
use Rattle.fs_model.specs.declared.fault.Fault.TheVariants.{Missing}
use Rattle.fs_model.specs.declared.verdict.Verdict.TheVariants.{Good, Faulty, Skipped}
use Rattle.fs_state.specs.State.{State}
use Rattle.sblock.specs.declared.kind.Kind.TheVariants.{Rmap}
use Rattle.test_said.proofs.Stands.{fault_step, verdict_step}
use Rattle.test_states.specs.Images.{mapped as owned, inodes}
use Rattle.test_states.specs.Rows.{short_rmap}
use Rattle.fs_model.specs.declared.«record».AnyRec.TheVariants as recs
use Rattle.fs_model.specs.declared.unit.Unit.TheVariants as units
use Rattle.test_said.proofs.Computing.{computing}
use Rattle.test_said.proofs.rows.check_of_mappings.Goals as goal

pub returns : goal.returns
unfolding computing
returns c =
    let a1 : State = judged 0 units.Inode Good short_rmap in
    let a2 : State = marked 0 Rmap a1 in
    let a3 : State = judged 0 units.Rmap (Faulty 1) a2 in
    let a4 : State = judged 0 units.Free (Skipped 0 units.Rmap) a3 in
    let a5 : State = judged 0 units.Refc (Skipped 0 units.Rmap) a4 in
    (a5, (_, (record { behind = tt; so = (record { ready = refl; unbegun = refl }, refl, refl) }, [], a1, verdict_step short_rmap units.Inode Good refl, tt, (record { behind = tt; so = ((refl, refl), [], refl) }, [], a2, fault_step a1 units.Rmap (Missing (recs.Rmap (owned 24 8 inodes 0))) refl refl, tt, (record { behind = tt; so = (record { begins = tt; all_said = refl }, refl, omega arith) }, [], a3, verdict_step a2 units.Rmap (Faulty 1) refl, tt, (record { behind = tt; so = refl }, [], a4, verdict_step a3 units.Free (Skipped 0 units.Rmap) refl, tt, (record { behind = tt; so = refl }, [], a5, verdict_step a4 units.Refc (Skipped 0 units.Rmap) refl, tt, (refl, refl))))))), record { order_kept = refl; verdicts = (tt, (tt, (tt, (refl, (refl, tt))))) })
