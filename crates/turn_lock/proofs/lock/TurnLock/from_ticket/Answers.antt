use Rattle.turn_lock.proofs.Steps.{opening_holds}
use Rattle.turn_lock.proofs.lock.TurnLock.from_ticket.Goals as goal

pub new-requires : goal.new-requires
new-requires g c = rw (c.in_ok-slots.ensures, c.of.ensures, c.of-2.ensures) (opening_holds g.T.Recorded.journal g.T.Recorded.origin g.T.Recorded.kept c.args.ticket c.entries.result c.args.value c.ranges.ticket.fits c.entries.ensures)
