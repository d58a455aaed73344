use Rattle.law_said.proofs.Through.{passes_compose}
use Rattle.law_said.proofs.ends.passes_compose.Goals as goal

pub returns : goal.returns
returns c = passes_compose
