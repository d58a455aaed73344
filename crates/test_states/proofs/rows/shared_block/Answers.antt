use Rattle.std.specs.Prelude.{refl}
use Rattle.std.proofs.Common.{arith}
use Rattle.test_states.specs.Rows.{shared_forty, unshared_forty}
use Rattle.test_states.proofs.Computing.{computing}
use Rattle.test_states.proofs.Within.{refc_faults}
use Rattle.test_states.proofs.rows.shared_block.Goals as goal

pub returns : goal.returns
unfolding computing
returns c = ((refl, refl), (refl, refl), (refl, refl), (refl, refc_faults shared_forty 0 256 refl (omega arith)), (refl, refl), (refl, refl), (refl, refl), (refl, refc_faults unshared_forty 0 256 refl (omega arith)))
