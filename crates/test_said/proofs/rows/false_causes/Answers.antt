use Rattle.std.proofs.Common.{arith}
use Rattle.test_said.proofs.Computing.{computing}
use Rattle.test_said.proofs.rows.false_causes.Goals as goal

pub returns : goal.returns
unfolding computing
returns c = (λ s. omega (arith, s.so.0.cause), (λ s. cc s.so.0.judged.all_said, (λ s. cc s.so.1.listed, (λ s. cc s.so.1.listed, (λ s. omega (arith, s.so.1.have), (λ s. omega (arith, s.so.1.need_is), (λ s. cc s.so.2, tt)))))))
