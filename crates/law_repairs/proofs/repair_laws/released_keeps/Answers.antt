use Rattle.law_repairs.proofs.Repair.Releases.{released_keeps}
use Rattle.law_repairs.proofs.repair_laws.released_keeps.Goals as goal

pub returns : goal.returns
returns c = released_keeps
