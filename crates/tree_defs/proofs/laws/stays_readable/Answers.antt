use Rattle.tree_defs.proofs.Stays.{stays_readable_lem}
use Rattle.tree_defs.proofs.laws.stays_readable.Goals as goal

pub returns : goal.returns
returns g c = stays_readable_lem g.K.RecKind.form g.met.K.RecKind.lawful
