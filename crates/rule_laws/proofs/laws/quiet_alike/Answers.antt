use Rattle.rule_laws.proofs.GroupLemmas.{quiet_alike}
use Rattle.rule_laws.proofs.laws.quiet_alike.Goals as goal

pub returns : goal.returns
returns c = quiet_alike
