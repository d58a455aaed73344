use Rattle.fs_change.proofs.Trees as lemmas
use Rattle.fs_change.proofs.laws.keeps_other_trees.Goals as goal

pub returns : goal.returns
returns c = lemmas.keeps_other_trees
