use Rattle.law_writers.proofs.Change.Firsts.{unmapped_keeps}
use Rattle.law_writers.proofs.change_laws.unmapped_keeps.Goals as goal

pub returns : goal.returns
returns c = unmapped_keeps
