use Rattle.check_phases.proofs.PhaseLemmas.{passed_can_be_read}
use Rattle.check_phases.proofs.laws.passed_can_be_read.Goals as goal

pub returns : goal.returns
returns c = passed_can_be_read
