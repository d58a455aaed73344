use Rattle.tree_defs.proofs.Trees.{reads_trees_lem}
use Rattle.tree_defs.proofs.laws.reads_trees.Goals as goal

pub returns : goal.returns
returns g c = reads_trees_lem g.K.RecKind.form g.met.K.RecKind.lawful
