use Rattle.unit_plan.proofs.LawLemmas.{in_group_lem}
use Rattle.unit_plan.proofs.laws.in_group.Goals as goal

pub returns : goal.returns
returns c = in_group_lem
