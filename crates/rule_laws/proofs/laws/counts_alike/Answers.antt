use Rattle.rule_laws.proofs.GroupLemmas.{counts_alike}
use Rattle.rule_laws.proofs.laws.counts_alike.Goals as goal

pub returns : goal.returns
returns c = counts_alike
