use Rattle.tree_find.proofs.LastLaw.{last_in_trees_lem}
use Rattle.tree_find.proofs.laws.last_in_trees.Goals as goal

pub returns : goal.returns
returns g c = last_in_trees_lem g.K.RecKind.form g.met.K.RecKind.lawful
