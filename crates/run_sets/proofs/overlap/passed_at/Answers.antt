use Rattle.std.proofs.Common.{arith}
use Rattle.run_sets.specs.Runs.{most}
use Rattle.run_sets.proofs.DepthLemmas.{up_to_stays}
use Rattle.run_sets.proofs.overlap.passed_at.Goals as goal

pub returns-then-count-numbers-clause-same : goal.returns-then-count-numbers-clause-same
returns-then-count-numbers-clause-same c =
    up_to_stays c.args.numbers.now c.count_up_to-count.result c.args.block _ c.requires.sorted c.count_up_to-count.ensures.passed.0 c.count_up_to-count.ensures.passed.1 (λ lt. omega arith)

pub returns-else-count-numbers-clause-same : goal.returns-else-count-numbers-clause-same
returns-else-count-numbers-clause-same c =
    up_to_stays c.args.numbers.now c.count_up_to-count.result c.args.block most c.requires.sorted c.count_up_to-count.ensures.passed.0 c.count_up_to-count.ensures.passed.1
    (λ lt. absurd (let ge = c.if-count-numbers.false in omega (arith, lt, ge)))
