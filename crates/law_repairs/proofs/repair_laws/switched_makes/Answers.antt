use Rattle.law_repairs.proofs.Repair.Made.{beside_stays, chunks_stay, inodes_keep_mappings, unit_is_made}
use Rattle.law_repairs.proofs.repair_laws.switched_makes.Goals as goal

pub returns-clause-chunks : goal.returns-clause-chunks
returns-clause-chunks c = chunks_stay

pub returns-clause-unit : goal.returns-clause-unit
returns-clause-unit c = unit_is_made

pub returns-clause-beside : goal.returns-clause-beside
returns-clause-beside c = beside_stays

pub returns-clause-mappings : goal.returns-clause-mappings
returns-clause-mappings c = inodes_keep_mappings
