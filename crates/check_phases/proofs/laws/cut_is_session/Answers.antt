use Rattle.check_phases.proofs.VerdictLemmas.{cut_is_session}
use Rattle.check_phases.proofs.laws.cut_is_session.Goals as goal

pub returns : goal.returns
returns c = cut_is_session
