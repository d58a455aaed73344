use Rattle.load_trees.proofs.TreeLemmas.{are_trees}
use Rattle.load_trees.proofs.laws.loaded_blocks_are_trees.Goals as goal

pub returns : goal.returns
returns g c = are_trees g.K.RecKind.form g.met.K.RecKind.lawful
