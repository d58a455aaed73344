use Rattle.test_changes.proofs.Computing.{computing}
use Rattle.std.specs.Prelude.{refl, length, ◌<◌}
use Rattle.std.proofs.Common.{arith, subst}
use Rattle.std.proofs.lemmas.Bool.{ltb-true, leb-true}
use Rattle.test_changes.proofs.rows.marks_bounded.Goals as goal

too_many : 3 < 3 → ⊥
too_many h = omega arith

none : 0 < 0 → ⊥
none h = omega arith

pub returns : goal.returns
unfolding computing
returns c = (
  (ltb-true 0 2 refl, ltb-true 2 3 refl, (leb-true 0 2 refl, leb-true 0 0 refl)),
  λ l. too_many l.1,
  λ s e. none (subst (λ os. 0 < length os) e s.some),
  λ w. w,
  refl,
  refl,
)
