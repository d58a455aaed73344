use Rattle.rule_laws.proofs.ForkLemmas.{adds_alike, occupied_alike}
use Rattle.rule_laws.proofs.laws.adds_alike.Goals as goal

pub returns-clause-added : goal.returns-clause-added
returns-clause-added c = adds_alike

pub returns-clause-occupied : goal.returns-clause-occupied
returns-clause-occupied c = occupied_alike
