use Rattle.test_changes.proofs.Computing.{computing}
use Rattle.std.specs.Prelude.{refl, ◌≤◌}
use Rattle.std.proofs.Common.{arith}
use Rattle.std.proofs.lemmas.Bool.{ltb-true, leb-true}
use Rattle.test_changes.proofs.rows.list_left.Goals as goal

too_long : 3 ≤ 2 → ⊥
too_long h = omega arith

too_much : 1 ≤ 0 → ⊥
too_much h = omega arith

pub returns : goal.returns
unfolding computing
returns c = (
  (ltb-true 0 2 refl, ltb-true 2 3 refl, (leb-true 2 2 refl, leb-true 0 2 refl)),
  (ltb-true 1 2 refl, ltb-true 2 3 refl, (leb-true 3 3 refl, leb-true 1 3 refl)),
  λ l. too_long l.2.0,
  (ltb-true 1 2 refl, ltb-true 2 3 refl, (leb-true 0 3 refl, leb-true 1 2 refl)),
  λ l. too_much l.2.1,
  refl,
  refl,
  refl,
  refl,
)
