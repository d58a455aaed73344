use Rattle.plan_laws.proofs.Lying.{lie_apart_lem}
use Rattle.plan_laws.proofs.laws.pieces_lie_apart.Goals as goal

pub returns : goal.returns
returns c = lie_apart_lem
