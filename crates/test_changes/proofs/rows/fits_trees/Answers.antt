use Rattle.test_changes.proofs.Computing.{computing}
use Rattle.std.specs.Prelude.{refl}
use Rattle.test_changes.proofs.rows.fits_trees.Goals as goal

pub returns : goal.returns
unfolding computing
returns c = (refl, refl, refl, refl, refl)
