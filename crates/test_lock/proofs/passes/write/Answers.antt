use Rattle.std.proofs.Common.{◌∙◌}
use Rattle.turn_lock.proofs.Actors.{actors_have}
use Rattle.test_lock.proofs.passes.write.Goals as goal

pub note-requires-clause-speaks : goal.note-requires-clause-speaks
note-requires-clause-speaks g c =
    let s = c.requires.speaks in
    actors_have c.loop-number.pass.seat.me.0.kept c.args.first s.0 c.args.actor (c.loop-number.invariant.1 ∙ s.2) c.requires.actor.0 s.1
