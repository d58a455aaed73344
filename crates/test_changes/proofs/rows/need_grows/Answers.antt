use Rattle.std.specs.Prelude.{refl}
use Rattle.test_changes.proofs.Computing.{computing}
use Rattle.bulk_load.specs.Shapes.{count, items, share}
use Rattle.test_changes.proofs.rows.need_grows.Goals as goal

pub returns : goal.returns
unfolding computing count items share
returns c = (refl, refl, refl, refl, refl, refl, refl, refl)
