use Rattle.rule_laws.proofs.SwitchLemmas.{switches_alike}
use Rattle.rule_laws.proofs.laws.counters_alike.Goals as goal

pub returns : goal.returns
returns c = switches_alike
