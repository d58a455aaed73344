use Rattle.std.proofs.Common.{refl}
use Rattle.xscrub.specs.Ending.{told_outcome}
use Rattle.xscrub.specs.Outcome.{stopped_outcome}
use Rattle.xscrub.proofs.EndingLemmas.{told_line}
use Rattle.xscrub.proofs.telling.tell_stopped.Goals as goal

pub returns-in-Ok-clause-told : goal.returns-in-Ok-clause-told
returns-in-Ok-clause-told g c = told_line c.args.status c.args.journal.items c.args.last (told_outcome c.end_with.result) _ _ c.end_with.ensures.shown

pub returns-in-Err-clause-shown : goal.returns-in-Err-clause-shown
returns-in-Err-clause-shown g c = c.end_early.ensures.shown _ _ c.put_journal.ensures.later (rw c.as_slice.ensures.value at c.in-Err.ensures.stop)

pub returns-in-Err-clause-told : goal.returns-in-Err-clause-told
returns-in-Err-clause-told g c =
    c.end_early.ensures.told (stopped_outcome c.args.status c.args.journal.items c.args.last) _ _ refl (rw c.as_slice.ensures.value at c.in-Err.ensures.stop)
