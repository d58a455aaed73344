use Rattle.unit_plan.proofs.LawLemmas.{any_order_lem}
use Rattle.unit_plan.proofs.laws.any_order.Goals as goal

pub returns : goal.returns
returns c = any_order_lem
