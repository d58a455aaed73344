use Rattle.tree_pieces.proofs.PieceLaw.{gives_pieces_lem}
use Rattle.tree_pieces.proofs.laws.gives_pieces.Goals as goal

pub returns : goal.returns
returns g c = gives_pieces_lem g.K.RecKind.form g.met.K.RecKind.lawful
