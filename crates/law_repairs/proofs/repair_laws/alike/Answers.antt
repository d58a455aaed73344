use Rattle.law_repairs.proofs.Repair.Same.{alike_law, good_stays}
use Rattle.law_repairs.proofs.repair_laws.alike.Goals as goal

pub returns-clause-each : goal.returns-clause-each
returns-clause-each c = alike_law

pub returns-clause-unit : goal.returns-clause-unit
returns-clause-unit c = good_stays
