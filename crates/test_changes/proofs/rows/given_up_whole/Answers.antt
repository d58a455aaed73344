use Rattle.std.specs.Prelude.{refl, []}
use Rattle.test_changes.proofs.Computing.{computing}
use Rattle.test_changes.proofs.Stands.{verdict_step}
use Rattle.fs_model.specs.declared.unit.Unit.TheVariants as units
use Rattle.fs_model.specs.declared.verdict.Verdict.TheVariants.{Good, Skipped}
use Rattle.test_states.specs.Rows.{on_heads}
use Rattle.test_changes.specs.Crashes.{judged_good, on_block_zero, one_given_up, given_up}
use Rattle.fs_change.specs.Changes.{judged}
use Rattle.test_changes.proofs.rows.given_up_whole.Goals as goal

pub returns : goal.returns
unfolding computing
returns c = (refl, ([], judged_good, verdict_step on_heads units.Inode Good refl, tt, ([], one_given_up, verdict_step judged_good units.Rmap on_block_zero refl, tt, ([], judged 0 units.Free (Skipped 0 units.Rmap) one_given_up, verdict_step one_given_up units.Free (Skipped 0 units.Rmap) refl, tt, ([], given_up, verdict_step (judged 0 units.Free (Skipped 0 units.Rmap) one_given_up) units.Refc (Skipped 0 units.Rmap) refl, tt, refl)))), (refl, (refl, (refl, (refl, (refl, (refl, tt)))))), refl)
