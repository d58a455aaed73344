use Rattle.run_sets.proofs.OnlyRunsLemmas.{one_list}
use Rattle.run_sets.proofs.laws.one_list.Goals as goal

pub returns : goal.returns
returns c p runs others left right = one_list p runs others left right
