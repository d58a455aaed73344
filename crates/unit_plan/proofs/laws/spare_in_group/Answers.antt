use Rattle.unit_plan.proofs.LawLemmas.{spare_in_group_lem}
use Rattle.unit_plan.proofs.laws.spare_in_group.Goals as goal

pub returns : goal.returns
returns c = spare_in_group_lem
