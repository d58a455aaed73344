use Rattle.tree_edit.proofs.ReadLemmas.{joined_is_read, others_stay}
use Rattle.tree_edit.proofs.laws.joined_tree_is_read.Goals as goal

pub returns : goal.returns
returns g c = let form = g.K.RecKind.form in record { read = joined_is_read form g.met.K.RecKind.lawful; others = others_stay form }
