use Rattle.std.proofs.Common.{arith, sym, subst}
use Rattle.atomic_table.specs.Table.{Allows}
use Rattle.turn_lock.specs.Rule.{LockHolds}
use Rattle.turn_lock.specs.Steps.{Publishes}
use Rattle.turn_lock.proofs.Steps.{publish_allows}
use Rattle.turn_lock.proofs.step.publish.Goals as goal

pub store-requires : goal.store-requires
store-requires g c =
    let j = g.T.Recorded.journal in let o = g.T.Recorded.origin in let k = g.T.Recorded.kept in
    let out = c.requires.out in (
      c.requires.same,
      omega (arith, c.requires.words),
      subst (λ l. Allows (LockHolds j o k c.args.shared.now.key.ticket.value) c.args.shared.now.table_id.slots c.args.seat.now.id c.args.seat.now.me 2 (λ _. c.args.entries) (λ _. Publishes j o k l c.args.seat.now.me)) (sym c.requires.left)
          (publish_allows j o k _ _ _ _ _ out.0 _ out.1 out.2 c.requires.entries),
    )
