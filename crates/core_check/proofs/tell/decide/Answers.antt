use Rattle.core_check.proofs.CheckLemmas.{leaves_self}
use Rattle.core_check.proofs.tell.decide.Goals as goal

pub returns-in-More-clause-leaves : goal.returns-in-More-clause-leaves
returns-in-More-clause-leaves g c = leaves_self g.D.Device c.args.desk.now c.args.which.group _ c.requires.usable c.requires.judging tt

pub returns-in-Rebuild-clause-leaves : goal.returns-in-Rebuild-clause-leaves
returns-in-Rebuild-clause-leaves g c = leaves_self g.D.Device c.args.desk.now c.args.which.group _ c.requires.usable c.requires.judging tt
