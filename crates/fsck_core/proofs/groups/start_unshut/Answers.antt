use Rattle.fsck_core.proofs.MoveLemmas.{starts_from}
use Rattle.fsck_core.proofs.groups.start_unshut.Goals as goal

pub returns-clause-says : goal.returns-clause-says
returns-clause-says g c =
    starts_from c.args.g c.args.unit c.args.plan c.args.turns c.args.parts.now c.start.new.parts c.start.result c.tell_done.result c.tell_done.ensures c.start.ensures.entries
    c.start.ensures.ready c.start.ensures.opened c.start.ensures.cleared c.start.ensures.bars c.start.ensures.kept
