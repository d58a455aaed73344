use Rattle.std.specs.Prelude.{refl}
use Rattle.std.proofs.Common.{arith}
use Rattle.test_states.specs.Rows.{short_longest}
use Rattle.test_states.proofs.Computing.{computing}
use Rattle.test_states.proofs.Within.{refc_faults}
use Rattle.test_states.proofs.rows.wrong_longest.Goals as goal

pub returns : goal.returns
unfolding computing
returns c = ((refl, refl), (refl, refl), (refl, refl), (refl, refc_faults short_longest 0 256 refl (omega arith)))
