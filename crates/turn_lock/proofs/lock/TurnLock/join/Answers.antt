use Rattle.std.proofs.Common.{◌∙◌, ap, arith, length, refl}
use Rattle.std.specs.Prelude.{IsSome}
use Rattle.std.proofs.lemmas.List.{length-append}
use Rattle.turn_lock.specs.Lists.{Below, Distinct}
use Rattle.turn_lock.specs.Views.{IsIdle, own_entries}
use Rattle.turn_lock.proofs.Chain.{along}
use Rattle.turn_lock.proofs.Positions.{distinct_apart, entries_joined}
use Rattle.turn_lock.proofs.lock.TurnLock.join.Goals as goal

pub invariant_of-pass : goal.invariant_of-pass
invariant_of-pass g c =
    let p = c.args.pass.now in
    let e = c.unite.ensures.both in
    let both = length-append p.seat.me.0.kept c.args.ended.seat.me.0.kept in
    let some = p.idle.2 in record {
      idle = along (λ m. IsIdle m) _ _ e.1 (p.idle.0, p.idle.1, omega (arith, both, some), p.idle.3, refl);
      begun = along (λ m. IsSome m.0.origin) _ _ e.1 p.begun;
      distinct = along (λ m. Distinct m.0.own) _ _ e.1 e.0.distinct;
      within = along (λ m. Below m.0.own (length m.0.seen)) _ _ e.1 e.0.within;
    }

pub returns-clause-apart : goal.returns-clause-apart
returns-clause-apart g c = distinct_apart c.args.pass.now.seat.me.0.own c.args.ended.seat.me.0.own c.unite.ensures.both.0.distinct

pub returns-clause-entries : goal.returns-clause-entries
returns-clause-entries g c =
    let p = c.args.pass.now in
    let q = c.args.ended in
    let e = c.unite.ensures.both in
    ap (λ m. own_entries m.0) e.1 ∙ entries_joined p.seat.me.0.seen q.seat.me.0.seen p.seat.me.0.own q.seat.me.0.own e.0.grown p.within q.within
