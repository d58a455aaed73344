use Rattle.check_phases.proofs.VerdictLemmas.{check_is_session}
use Rattle.check_phases.proofs.laws.check_is_session.Goals as goal

pub returns : goal.returns
returns c = check_is_session
