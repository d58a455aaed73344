use Rattle.tree_defs.proofs.Counted.{counts_blocks_lem}
use Rattle.tree_defs.proofs.laws.counts_blocks.Goals as goal

pub returns : goal.returns
returns g c = counts_blocks_lem g.K.RecKind.form g.met.K.RecKind.lawful
