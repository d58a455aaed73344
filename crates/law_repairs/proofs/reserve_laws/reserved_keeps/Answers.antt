use Rattle.law_repairs.proofs.Reserve.OwnGroup.{reserved_keeps_own}
use Rattle.law_repairs.proofs.reserve_laws.reserved_keeps.Goals as goal

pub returns : goal.returns
returns c = reserved_keeps_own
