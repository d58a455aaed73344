use Rattle.std.proofs.Common.{refl}
use Rattle.xscrub.specs.Outcome.{repaired_outcome}
use Rattle.xscrub.proofs.EndingLemmas.{shown_alone}
use Rattle.xscrub.proofs.telling.tell_repaired.Goals as goal

pub returns-in-Ok-clause-shown : goal.returns-in-Ok-clause-shown
returns-in-Ok-clause-shown g c =
    shown_alone c.args.journal.items _ _ _ _ c.in-Ok.ensures.calm (rw c.as_slice.ensures.value at c.in-Ok.ensures.whole)

pub returns-in-Err-clause-shown : goal.returns-in-Err-clause-shown
returns-in-Err-clause-shown g c = c.end_early.ensures.shown _ _ c.put_journal.ensures.later (rw c.as_slice.ensures.value at c.in-Err.ensures.stop)

pub returns-in-Err-clause-told : goal.returns-in-Err-clause-told
returns-in-Err-clause-told g c =
    c.end_early.ensures.told (repaired_outcome c.args.is_sick c.args.journal.items) _ _ refl (rw c.as_slice.ensures.value at c.in-Err.ensures.stop)
