use Rattle.rule_laws.proofs.ForkLemmas.{converts_alike}
use Rattle.rule_laws.proofs.laws.converts_alike.Goals as goal

pub returns : goal.returns
returns c = converts_alike
