use Rattle.law_writers.proofs.Change.Settled.{shadow_by_settled}
use Rattle.law_writers.proofs.change_laws.shadow_by_settled.Goals as goal

pub returns : goal.returns
returns c = shadow_by_settled
