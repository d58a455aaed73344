use Rattle.std.specs.Prelude.{refl}
use Rattle.test_changes.proofs.Computing.{computing}
use Rattle.test_changes.proofs.rows.marked_once.Goals as goal

pub returns : goal.returns
unfolding computing
returns c = (refl, refl, refl, refl, refl, refl)
