use Rattle.std.proofs.Common.{ap, sym}
use Rattle.core_check.specs.Entries.{owners_in}
use Rattle.core_check.proofs.EntryLemmas.{left_for}
use Rattle.core_check.proofs.gather.gather_work.Goals as goal

pub returns-in-Closed-clause-stands : goal.returns-in-Closed-clause-stands
returns-in-Closed-clause-stands g c =
    left_for c.args.work c.in-Closed.owners.items c.gather_first.result.answer c.gather_first.result.work (sym (ap owners_in c.in-Closed.is)) c.gather_first.ensures.stands

pub returns-in-Gathering-clause-stands : goal.returns-in-Gathering-clause-stands
returns-in-Gathering-clause-stands g c =
    left_for c.args.work c.in-Gathering.gathered.owners.items c.gather_from.result.answer c.gather_from.result.work (sym (ap owners_in c.in-Gathering.is)) c.gather_from.ensures.stands
