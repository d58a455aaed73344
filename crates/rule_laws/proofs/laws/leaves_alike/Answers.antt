use Rattle.rule_laws.proofs.LimboLemmas.{leaves_alike, owners_alike}
use Rattle.rule_laws.proofs.laws.leaves_alike.Goals as goal

pub returns-clause-left : goal.returns-clause-left
returns-clause-left c = leaves_alike

pub returns-clause-owner : goal.returns-clause-owner
returns-clause-owner c = owners_alike
