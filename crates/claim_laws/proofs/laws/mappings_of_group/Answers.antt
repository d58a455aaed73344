use Rattle.claim_laws.proofs.Whole.{mappings_lem}
use Rattle.claim_laws.proofs.laws.mappings_of_group.Goals as goal

pub returns : goal.returns
returns c = mappings_lem
