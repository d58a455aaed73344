use Rattle.std.specs.Prelude.{refl}
use Rattle.std.proofs.Common.{arith}
use Rattle.test_states.specs.Rows.{with_sibling}
use Rattle.test_states.proofs.Computing.{computing}
use Rattle.test_states.proofs.Within.{refc_faults}
use Rattle.test_states.proofs.rows.wrong_sibling.Goals as goal

pub returns : goal.returns
unfolding computing
returns c = ((refl, refl), (refl, refl), (refl, refl), (refl, refc_faults with_sibling 0 256 refl (omega arith)))
