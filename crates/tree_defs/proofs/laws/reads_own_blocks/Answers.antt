use Rattle.tree_defs.proofs.Frames.{reads_own_blocks_lem}
use Rattle.tree_defs.proofs.laws.reads_own_blocks.Goals as goal

pub returns : goal.returns
returns g c = reads_own_blocks_lem g.K.RecKind.form
