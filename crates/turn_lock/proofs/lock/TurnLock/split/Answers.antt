use Rattle.std.proofs.Common.{length}
use Rattle.std.specs.Prelude.{IsSome}
use Rattle.turn_lock.specs.Lists.{Below, Distinct}
use Rattle.turn_lock.specs.Views.{IsIdle}
use Rattle.turn_lock.proofs.Chain.{along}
use Rattle.turn_lock.proofs.lock.TurnLock.split.Goals as goal

pub invariant_of-pass : goal.invariant_of-pass
invariant_of-pass g c =
    let p = c.args.pass.now in
    let e = c.cut-seat.ensures.stays in record {
      idle = along (λ m. IsIdle m) _ _ e (p.idle.0, p.idle.1, c.requires.lower, p.idle.3, p.idle.4);
      begun = along (λ m. IsSome m.0.origin) _ _ e p.begun;
      distinct = along (λ m. Distinct m.0.own) _ _ e p.distinct;
      within = along (λ m. Below m.0.own (length m.0.seen)) _ _ e p.within;
    }
