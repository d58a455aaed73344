use Rattle.plan_laws.proofs.Spares.{lowest_agrees_lem, spare_agrees_lem}
use Rattle.plan_laws.proofs.laws.spare_agrees.Goals as goal

pub returns-clause-each : goal.returns-clause-each
returns-clause-each c = spare_agrees_lem

pub returns-clause-lowest : goal.returns-clause-lowest
returns-clause-lowest c = lowest_agrees_lem
