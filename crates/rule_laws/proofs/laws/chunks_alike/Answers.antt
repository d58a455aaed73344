use Rattle.rule_laws.proofs.InodeLemmas.{makes_alike, turns_alike}
use Rattle.rule_laws.proofs.laws.chunks_alike.Goals as goal

pub returns-clause-turned : goal.returns-clause-turned
returns-clause-turned c = turns_alike

pub returns-clause-made : goal.returns-clause-made
returns-clause-made c = makes_alike
