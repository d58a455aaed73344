use Rattle.std.proofs.Common.{arith, get_or, sym, true, ◌∙◌}
use Rattle.image_check.proofs.FallenLemmas.{one_further, that_fell, that_passed}
use Rattle.image_check.proofs.image.first_fallen.Goals as goal

pub loop-g-init : goal.loop-g-init
loop-g-init c = λ h lt. absurd (omega (arith, lt))

pub loop-g-preserved : goal.loop-g-preserved
loop-g-preserved c = one_further c.args.passed.now c.loop-g.g c.loop-g.invariant (that_passed (get_or c.args.passed.now c.loop-g.g true) (sym c.has_fallen.ensures ∙ c.if-has_fallen.false))

pub returns-then-has_fallen : goal.returns-then-has_fallen
returns-then-has_fallen c = (c.loop-g-test.true, that_fell (get_or c.args.passed.now c.loop-g.g true) (sym c.has_fallen.ensures ∙ c.if-has_fallen.true), c.loop-g.invariant)

pub returns : goal.returns
returns c = λ h lt. c.loop-g.invariant h (let end = c.loop-g.auto.g-end in omega (arith, lt, c.loop-g-test.false, end))
