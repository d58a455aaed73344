use Rattle.claim_laws.proofs.Images.{good_forks_lem}
use Rattle.claim_laws.proofs.laws.good_forks.Goals as goal

pub returns : goal.returns
returns c = good_forks_lem
