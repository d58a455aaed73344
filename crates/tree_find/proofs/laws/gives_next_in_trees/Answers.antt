use Rattle.tree_find.proofs.NextLaw.{gives_next_lem}
use Rattle.tree_find.proofs.laws.gives_next_in_trees.Goals as goal

pub returns : goal.returns
returns g c = gives_next_lem g.K.RecKind.form g.met.K.RecKind.lawful
