use Rattle.test_said.proofs.Computing.{computing}
use Rattle.test_said.proofs.rows.false_goods.Goals as goal

pub returns : goal.returns
unfolding computing
returns c = (λ s. cc s.so.2, (λ s. cc s.so.0.unbegun, tt))
