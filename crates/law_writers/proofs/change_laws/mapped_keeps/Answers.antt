use Rattle.law_writers.proofs.Change.Firsts.{mapped_keeps}
use Rattle.law_writers.proofs.change_laws.mapped_keeps.Goals as goal

pub returns : goal.returns
returns c = mapped_keeps
