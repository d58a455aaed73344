use Rattle.std.specs.Prelude.{refl}
use Rattle.test_states.proofs.Computing.{computing}
use Rattle.test_states.proofs.rows.bad_core.Goals as goal

pub returns : goal.returns
unfolding computing
returns c = (refl, record { order_kept = refl; verdicts = (tt, (refl, (refl, (refl, tt)))) })
