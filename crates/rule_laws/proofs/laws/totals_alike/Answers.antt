use Rattle.rule_laws.proofs.SwitchLemmas.{last_is_greatest, sums_alike}
use Rattle.rule_laws.proofs.laws.totals_alike.Goals as goal

pub returns-clause-sums : goal.returns-clause-sums
returns-clause-sums c = sums_alike

pub returns-clause-longest : goal.returns-clause-longest
returns-clause-longest c = last_is_greatest
