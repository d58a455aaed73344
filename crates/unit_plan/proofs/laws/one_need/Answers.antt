use Rattle.unit_plan.proofs.NeedLemmas.{one_need_lem}
use Rattle.unit_plan.proofs.laws.one_need.Goals as goal

pub returns : goal.returns
returns c = one_need_lem
