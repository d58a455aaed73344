use Rattle.rule_laws.proofs.InodeLemmas.{cores_alike}
use Rattle.rule_laws.proofs.laws.cores_alike.Goals as goal

pub returns : goal.returns
returns c = cores_alike
