use Rattle.rmap_recs.proofs.RunLemmas.{only_runs}
use Rattle.rmap_recs.proofs.laws.one_list.Goals as goal

pub returns : goal.returns
returns c = only_runs
