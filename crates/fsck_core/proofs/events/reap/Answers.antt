use Rattle.fsck_core.proofs.MoveLemmas.{reap_back}
use Rattle.fsck_core.proofs.events.reap.Goals as goal

pub returns-clause-says : goal.returns-clause-says
returns-clause-says g c = reap_back c.args.unit.now.group c.args.kept.now c.reap_piece-reaped.new.kept c.args.desk.now c.reap_piece-reaped.new.desk c.reap_piece-reaped.result c.reap_piece-reaped.ensures.says
