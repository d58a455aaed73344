use Rattle.claim_laws.proofs.Whole.{overlap_lem}
use Rattle.claim_laws.proofs.laws.overlap_of_group.Goals as goal

pub returns : goal.returns
returns c = overlap_lem
