use Rattle.check_phases.proofs.OrderLemmas.{phases_in_order}
use Rattle.check_phases.proofs.laws.phases_in_order.Goals as goal

pub returns : goal.returns
returns c = phases_in_order
