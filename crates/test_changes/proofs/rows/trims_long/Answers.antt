use Rattle.test_changes.proofs.Computing.{computing}
use Rattle.std.specs.Prelude.{refl, ◌<◌}
use Rattle.std.proofs.Common.{arith}
use Rattle.std.proofs.lemmas.Bool.{ltb-true}
use Rattle.test_changes.proofs.rows.trims_long.Goals as goal

none_longer : 64 < 64 → ⊥
none_longer h = omega arith

pub returns : goal.returns
unfolding computing
returns c = (
  (ltb-true 64 65 refl, record { some = ltb-true 0 12 refl; sound = refl; on_list = refl }),
  record { some = ltb-true 0 12 refl; sound = refl; on_list = refl },
  λ w. none_longer w.0,
)
