use Rattle.tree_cover.proofs.LookLemmas.{looks_at_all_lem}
use Rattle.tree_cover.proofs.laws.looks_at_all.Goals as goal

pub returns : goal.returns
returns g c = looks_at_all_lem g.K.RecKind.form
