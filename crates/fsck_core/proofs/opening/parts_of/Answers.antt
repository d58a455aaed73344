use Rattle.fsck_core.proofs.OpenLemmas.{begun_safe}
use Rattle.fsck_core.proofs.opening.parts_of.Goals as goal

pub returns-clause-safe : goal.returns-clause-safe
returns-clause-safe g c = begun_safe g.D.Device c.args.store c.args.beside _ c.args.begun c.requires.ready c.requires.beside c.requires.calm
