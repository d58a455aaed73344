use Rattle.law_repairs.proofs.Repair.Owners.{space_keeps_mappings}
use Rattle.law_repairs.proofs.repair_laws.space_keeps_mappings.Goals as goal

pub returns : goal.returns
returns c = space_keeps_mappings
