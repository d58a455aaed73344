use Rattle.law_repairs.proofs.Repair.Switches.{space_keeps_chunks, switched_keeps}
use Rattle.law_repairs.proofs.repair_laws.switched_beside.Goals as goal

pub returns-clause-units : goal.returns-clause-units
returns-clause-units c = switched_keeps

pub returns-clause-chunks : goal.returns-clause-chunks
returns-clause-chunks c = space_keeps_chunks
