use Rattle.law_writers.proofs.Change.Settled.{shadow_follows}
use Rattle.law_writers.proofs.change_laws.shadow_follows.Goals as goal

pub returns : goal.returns
returns c = shadow_follows
