use Rattle.rule_laws.proofs.LimboLemmas.{joins_alike}
use Rattle.rule_laws.proofs.laws.joins_alike.Goals as goal

pub returns : goal.returns
returns c = joins_alike c.limbo_is_a_set.ensures
