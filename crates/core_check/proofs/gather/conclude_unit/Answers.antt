use Rattle.core_check.proofs.CheckLemmas.{leaves_self}
use Rattle.core_check.proofs.gather.conclude_unit.Goals as goal

pub returns-in-Ok-Judging-clause-leaves : goal.returns-in-Ok-Judging-clause-leaves
returns-in-Ok-Judging-clause-leaves g c =
    let ends = rw c.in-Ok-Judging.field-0-is at c.in-Ok-Judging.ensures in
    leaves_self g.D.Device c.args.desk.now c.args.which.group _ c.requires.usable ends.0 tt

pub returns-in-Err-clause-leaves : goal.returns-in-Err-clause-leaves
returns-in-Err-clause-leaves g c = leaves_self g.D.Device c.args.desk.now c.args.which.group _ c.requires.usable tt tt

pub returns-in-Ok-GaveUp-clause-stands : goal.returns-in-Ok-GaveUp-clause-stands
returns-in-Ok-GaveUp-clause-stands g c = c.give_up_whole.ensures.stands c.args.gathered.owners.items
