use Rattle.law_writers.proofs.Change.Settled.{shadow_stays}
use Rattle.law_writers.proofs.change_laws.shadow_stays.Goals as goal

pub returns : goal.returns
returns c = shadow_stays
