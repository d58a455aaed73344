use Rattle.std.specs.Prelude.{refl}
use Rattle.test_states.proofs.Computing.{computing}
use Rattle.test_states.proofs.rows.too_many_levels.Goals as goal

pub returns : goal.returns
unfolding computing
returns c = ((refl, refl), (refl, refl), (refl, refl), (refl, refl))
