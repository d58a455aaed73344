use Rattle.core_calls.specs.declared.answers.ScrubFault.TheVariants as faults
use Rattle.quiet_repair.proofs.sessions.turn_asked.Goals as goal

pub returns-clause-ends : goal.returns-clause-ends
returns-clause-ends g c = c.if-ask_watched.ensures.goes faults.Memory
