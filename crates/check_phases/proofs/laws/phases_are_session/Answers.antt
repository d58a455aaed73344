use Rattle.check_phases.proofs.PhaseLemmas.{phases_are_session}
use Rattle.check_phases.proofs.laws.phases_are_session.Goals as goal

pub returns : goal.returns
returns c = phases_are_session
