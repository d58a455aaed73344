use Rattle.core_check.proofs.CheckLemmas.{leaves_self}
use Rattle.core_check.proofs.gather.follow.Goals as goal

pub returns-in-More-clause-leaves : goal.returns-in-More-clause-leaves
returns-in-More-clause-leaves g c = leaves_self g.D.Device c.args.desk.now c.args.which.group _ c.requires.usable c.requires.orderly tt
