use Rattle.plan_laws.proofs.Needs.{need_agrees_lem, tree_need_lem}
use Rattle.plan_laws.proofs.laws.need_agrees.Goals as goal

pub returns-clause-tree : goal.returns-clause-tree
returns-clause-tree c = tree_need_lem

pub returns-clause-unit : goal.returns-clause-unit
returns-clause-unit c = need_agrees_lem
