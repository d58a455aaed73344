use Rattle.std.proofs.Common.{arith}
use Rattle.test_said.proofs.Computing.{computing}
use Rattle.test_said.proofs.rows.false_counts.Goals as goal

pub returns : goal.returns
unfolding computing
returns c = (λ s. omega (arith, s.so.1), (λ s. omega (arith, s.so.1), (λ s. cc s.so.0.all_said, (λ s. omega (arith, s.so.2), tt))))
