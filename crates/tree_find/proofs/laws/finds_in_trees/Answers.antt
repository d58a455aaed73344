use Rattle.tree_find.proofs.FindLaw.{finds_in_trees_lem}
use Rattle.tree_find.proofs.laws.finds_in_trees.Goals as goal

pub returns : goal.returns
returns g c = finds_in_trees_lem g.K.RecKind.form g.met.K.RecKind.lawful
