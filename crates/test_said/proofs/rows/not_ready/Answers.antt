use Rattle.test_said.proofs.Computing.{computing}
use Rattle.test_said.proofs.rows.not_ready.Goals as goal

pub returns : goal.returns
unfolding computing
returns c = (λ s. cc s.so.0.ready, (λ s. cc s.so.0.ready, (λ s. cc s.so.0.0, (λ s. cc s.so, tt))))
