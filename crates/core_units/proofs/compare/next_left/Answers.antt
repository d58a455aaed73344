use Rattle.std.proofs.Common.{◌∙◌, ap}
use Rattle.core_units.specs.Compared.{faults_from}
use Rattle.core_units.proofs.CompareLemmas.{first_passed}
use Rattle.core_units.proofs.compare.next_left.Goals as goal

pub returns-else-is_first_left : goal.returns-else-is_first_left
returns-else-is_first_left c = λ kept heads. ap (faults_from kept heads c.args.trees.now c.args.lists.now) c.in-First.is ∙ first_passed kept heads c.args.trees.now c.args.lists.now c.in-First.from (c.is_first_left.ensures c.if-is_first_left.false) ∙ c.second_left.ensures kept heads

pub returns-in-Second : goal.returns-in-Second
returns-in-Second c = λ kept heads. ap (faults_from kept heads c.args.trees.now c.args.lists.now) c.in-Second.is ∙ c.second_left-in-Second.ensures kept heads
