use Rattle.rule_laws.proofs.LimboLemmas.{longest_alike}
use Rattle.rule_laws.proofs.laws.switches_alike.Goals as goal

pub returns : goal.returns
returns c = longest_alike
