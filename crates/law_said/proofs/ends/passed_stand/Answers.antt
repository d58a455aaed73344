use Rattle.law_said.proofs.Clean.{passed_stand}
use Rattle.law_said.proofs.ends.passed_stand.Goals as goal

pub returns : goal.returns
returns c = passed_stand
