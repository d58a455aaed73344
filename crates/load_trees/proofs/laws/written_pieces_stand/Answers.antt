use Rattle.load_trees.proofs.WrittenLemmas.{pieces_stand, pieces_join, all_stand}
use Rattle.load_trees.proofs.laws.written_pieces_stand.Goals as goal

pub returns : goal.returns
returns g c = record { piece = pieces_stand g.K.RecKind.form; join = pieces_join g.K.RecKind.form; all = all_stand g.K.RecKind.form }
