use Rattle.std.specs.Prelude.{refl}
use Rattle.std.proofs.Common.{arith}
use Rattle.test_states.specs.Rows.{two}
use Rattle.test_states.proofs.Computing.{computing}
use Rattle.test_states.proofs.Within.{refc_faults}
use Rattle.test_states.proofs.rows.two_groups.Goals as goal

pub returns : goal.returns
unfolding computing
returns c = ((refl, refl), (refl, refl), (refl, refl), (refl, refc_faults two 0 64 refl (omega arith)), (refl, refl), (refl, refl), (refl, refl), (refl, refc_faults two 1 64 refl (omega arith)), record { order_kept = refl; verdicts = (tt, (tt, (tt, (tt, (tt, (tt, (tt, (tt, tt)))))))) })
