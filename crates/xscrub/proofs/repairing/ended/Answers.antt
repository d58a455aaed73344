use Rattle.std.proofs.Common.{Option, subst}
use Rattle.core_calls.specs.declared.answers.ScrubFault.{ScrubFault}
use Rattle.quiet_repair.specs.Ends.{HasOrder, StopsWell}
use Rattle.xscrub.proofs.AloneLemmas.{no_stop_lie}
use Rattle.xscrub.proofs.SessionLemmas.{whole_session}
use Rattle.xscrub.proofs.repairing.ended.Goals as goal

pub returns-in-Some-clause-device : goal.returns-in-Some-clause-device
returns-in-Some-clause-device c = λ before now ends. c.stopped.ensures.device before now (subst (StopsWell before now c.args.journal.items) c.in-Some.is ends)

pub returns-in-Some-clause-units : goal.returns-in-Some-clause-units
returns-in-Some-clause-units c = λ plan turns has. c.stopped.ensures.units plan turns (subst (λ (stop : Option ScrubFault). HasOrder plan turns stop c.args.journal.items) c.in-Some.is has)

pub returns-in-None-clause-units : goal.returns-in-None-clause-units
returns-in-None-clause-units c = λ plan turns has. whole_session plan turns c.args.is_sick c.args.journal.items (subst (λ (stop : Option ScrubFault). HasOrder plan turns stop c.args.journal.items) c.in-None.is has)

pub returns-in-Some-clause-alone : goal.returns-in-Some-clause-alone
returns-in-Some-clause-alone c = λ told same whole well. absurd (no_stop_lie c.args.stop c.in-Some.fault whole c.in-Some.is)

pub returns-in-None-clause-alone : goal.returns-in-None-clause-alone
returns-in-None-clause-alone c = λ told same whole well. (same, well)
