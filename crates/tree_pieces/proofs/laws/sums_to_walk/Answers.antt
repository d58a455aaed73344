use Rattle.tree_pieces.proofs.PieceLaw.{sums_to_walk_lem}
use Rattle.tree_pieces.proofs.laws.sums_to_walk.Goals as goal

pub returns : goal.returns
returns g c = sums_to_walk_lem g.K.RecKind.form g.met.K.RecKind.lawful
