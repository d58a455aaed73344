use Rattle.std.proofs.Common.{arith, refl}
use Rattle.fs_state.specs.Faults.{faults}
use Rattle.fs_model.specs.declared.unit.Unit.TheVariants as units
use Rattle.fs_state.specs.State.{State}
use Rattle.test_said.proofs.Computing.{computing}
use Rattle.test_said.proofs.Nothing.{nothing_next}
use Rattle.test_said.proofs.Within.{refc_faults}
use Rattle.test_said.specs.Accepted.{all_good}
use Rattle.test_said.specs.Refused.{state_after}
use Rattle.test_states.specs.Images.{image_a}
use Rattle.test_said.proofs.rows.false_faults.Goals as goal

pub returns : goal.returns
unfolding computing
returns c =
    let a : State = state_after image_a all_good in
    (λ s. nothing_next (faults a 0 units.Refc) _ s.so.1 (refc_faults a 0 256 refl (omega arith)) s.so.2, (λ s. cc s.so.2, (λ s. cc s.so.2, (λ s. cc s.so.2, tt))))
