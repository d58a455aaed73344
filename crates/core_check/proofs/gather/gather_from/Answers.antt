use Rattle.core_check.proofs.CheckLemmas.{leaves_self}
use Rattle.core_check.proofs.gather.gather_from.Goals as goal

pub returns-in-Err-clause-leaves : goal.returns-in-Err-clause-leaves
returns-in-Err-clause-leaves g c = leaves_self g.D.Device c.args.desk.now c.args.which.group _ c.requires.usable c.requires.orderly tt
