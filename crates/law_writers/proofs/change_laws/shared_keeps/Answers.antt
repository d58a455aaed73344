use Rattle.law_writers.proofs.Change.Firsts.{shared_keeps}
use Rattle.law_writers.proofs.change_laws.shared_keeps.Goals as goal

pub returns : goal.returns
returns c = shared_keeps
