use Rattle.tree_cover.proofs.ExactLemmas.{searches_trees_lem}
use Rattle.tree_cover.proofs.laws.searches_trees.Goals as goal

pub returns : goal.returns
returns g c = searches_trees_lem g.K.RecKind.form g.met.K.RecKind.lawful g.met.K.Covers.covers
