use Rattle.law_writers.proofs.Change.Convert.{converted_keeps}
use Rattle.law_writers.proofs.change_laws.converted_keeps.Goals as goal

pub returns : goal.returns
returns c = converted_keeps
