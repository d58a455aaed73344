use Rattle.rule_laws.proofs.RunLemmas.{chunk_runs_alike}
use Rattle.rule_laws.proofs.laws.chunk_runs_alike.Goals as goal

pub returns : goal.returns
returns c = chunk_runs_alike
