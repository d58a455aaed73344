use Rattle.std.specs.Prelude.{refl}
use Rattle.test_states.proofs.Computing.{computing}
use Rattle.test_states.proofs.rows.unread_mappings.Goals as goal

pub returns : goal.returns
unfolding computing
returns c = ((refl, refl), (refl, refl), record { order_kept = refl; verdicts = (tt, (tt, (tt, (refl, (refl, tt))))) })
