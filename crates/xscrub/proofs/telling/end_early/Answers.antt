use Rattle.std.proofs.Common.{subst}
use Rattle.xscrub.specs.Ending.{told_outcome}
use Rattle.xscrub.specs.Shown.{StopsAt}
use Rattle.xscrub.specs.declared.telling.TellStop.{TellStop}
use Rattle.xscrub.proofs.EndingLemmas.{told_failed, told_memory}
use Rattle.xscrub.proofs.telling.end_early.Goals as goal

pub returns-in-Sink-clause-told : goal.returns-in-Sink-clause-told
returns-in-Sink-clause-told g c = λ found f a of stop.
    let at = subst (λ (s : TellStop). StopsAt c.args.journal.items f (g.K.Sink.sink_faults c.args.sink.now) a (g.K.Sink.taken c.args.sink.now) s) c.in-Sink.is stop in
    told_failed found (told_outcome c.end_with.result) c.args.journal.items f _ _ of at.0 at.1 c.end_with.ensures.line.later c.end_with.ensures.shown

pub returns-in-Memory-clause-told : goal.returns-in-Memory-clause-told
returns-in-Memory-clause-told g c = λ found f a of stop.
    let at = subst (λ (s : TellStop). StopsAt c.args.journal.items f (g.K.Sink.sink_faults c.args.sink.now) a (g.K.Sink.taken c.args.sink.now) s) c.in-Memory.is stop in
    told_memory found (told_outcome c.end_with-in-Memory.result) c.args.journal.items c.truncate.new.self.items c.in-Memory.told f _ of at.0 c.truncate.ensures.items c.end_with-in-Memory.ensures.shown
