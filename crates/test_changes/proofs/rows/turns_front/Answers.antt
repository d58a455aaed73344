use Rattle.test_changes.proofs.Computing.{computing}
use Rattle.std.specs.Prelude.{refl}
use Rattle.test_changes.proofs.rows.turns_front.Goals as goal

pub returns : goal.returns
unfolding computing
returns c = (refl, refl, refl, refl, refl, refl, refl)
