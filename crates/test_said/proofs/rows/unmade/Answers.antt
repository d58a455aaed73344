use Rattle.std.proofs.Common.{arith}
use Rattle.test_said.proofs.Computing.{computing}
use Rattle.test_said.proofs.rows.unmade.Goals as goal

pub returns : goal.returns
unfolding computing
returns c = (λ s. s.behind, (λ s. s.behind, (λ s. cc s.behind, (λ s. s.behind, (λ s. s.so.cause, (λ s. s.so.cause, (λ s. omega (arith, s.so.cause), tt)))))))
