use Rattle.std.proofs.Common.{refl}
use Rattle.test_states.specs.Images.{image_a}
use Rattle.test_said.proofs.Computing.{computing}
use Rattle.test_said.proofs.rows.nothing_said.Goals as goal

pub returns : goal.returns
unfolding computing
returns c =
    (image_a, (_, (refl, refl)), record { order_kept = refl; verdicts = tt })
