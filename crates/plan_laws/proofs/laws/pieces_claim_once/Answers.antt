use Rattle.plan_laws.proofs.Lying.{claimed_once_lem}
use Rattle.plan_laws.proofs.laws.pieces_claim_once.Goals as goal

pub returns : goal.returns
returns c = claimed_once_lem
