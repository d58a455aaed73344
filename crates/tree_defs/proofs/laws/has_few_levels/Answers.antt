use Rattle.tree_defs.proofs.Depths.{has_few_levels_lem}
use Rattle.tree_defs.proofs.laws.has_few_levels.Goals as goal

pub returns : goal.returns
returns g c = has_few_levels_lem g.K.RecKind.form
