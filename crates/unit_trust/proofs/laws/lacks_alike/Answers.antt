use Rattle.unit_trust.proofs.Lacking.{lack_alike}
use Rattle.unit_trust.proofs.laws.lacks_alike.Goals as goal

pub returns : goal.returns
returns c = lack_alike
