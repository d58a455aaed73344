use Rattle.quiet_repair.proofs.InsideLemmas.{asked_inside}
use Rattle.quiet_repair.proofs.sessions.turn.Goals as goal

pub turn_asked-requires-clause-asked : goal.turn_asked-requires-clause-asked
turn_asked-requires-clause-asked g c = asked_inside c.args.parts.now.desk.store.geo.agcount c.args.order.now c.in-Some.ask c.in-Some.ensures c.requires.stands.inside
