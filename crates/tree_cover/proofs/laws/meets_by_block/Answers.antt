use Rattle.tree_cover.proofs.LookLemmas.{meets_by_block_lem}
use Rattle.tree_cover.proofs.laws.meets_by_block.Goals as goal

pub returns : goal.returns
returns g c = meets_by_block_lem g.K.RecKind.form
