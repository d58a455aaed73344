use Rattle.tree_defs.proofs.Rows.{blocks_differ_lem}
use Rattle.tree_defs.proofs.laws.blocks_differ.Goals as goal

pub returns : goal.returns
returns g c = blocks_differ_lem g.K.RecKind.form
