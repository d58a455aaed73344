use Rattle.tree_defs.proofs.ClaimLemmas.{claims_are_listed_lem}
use Rattle.tree_defs.proofs.laws.claims_are_listed.Goals as goal

pub returns : goal.returns
returns g c = claims_are_listed_lem g.K.RecKind.form
