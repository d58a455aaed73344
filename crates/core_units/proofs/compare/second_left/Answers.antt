use Rattle.core_units.proofs.CompareLemmas.{second_passed}
use Rattle.core_units.proofs.compare.second_left.Goals as goal

pub returns : goal.returns
returns c = λ kept heads. second_passed kept heads c.args.trees.now c.args.lists.now c.args.from (c.is_second_left.ensures c.if-is_second_left.false)
