use Rattle.rule_laws.proofs.GroupLemmas.{chooses_alike}
use Rattle.rule_laws.proofs.laws.chooses_alike.Goals as goal

pub returns : goal.returns
returns c = chooses_alike
