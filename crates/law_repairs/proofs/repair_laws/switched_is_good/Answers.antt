use Rattle.law_repairs.proofs.Repair.Switches.{switched_is_good}
use Rattle.law_repairs.proofs.repair_laws.switched_is_good.Goals as goal

pub returns : goal.returns
returns c = switched_is_good
