use Rattle.law_repairs.proofs.Repair.Ending.{ends_without_faults, forgets_nothing}
use Rattle.law_repairs.proofs.repair_laws.ends.Goals as goal

pub returns-clause-keeps : goal.returns-clause-keeps
returns-clause-keeps c = forgets_nothing

pub returns-clause-faults : goal.returns-clause-faults
returns-clause-faults c = ends_without_faults
