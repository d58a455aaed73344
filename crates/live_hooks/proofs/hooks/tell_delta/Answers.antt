use Rattle.std.proofs.Common.{sym, ◌∙◌}
use Rattle.live_hooks.specs.Heard.{Inode}
use Rattle.live_hooks.proofs.HeardLemmas.{delta_told, delta_waits}
use Rattle.live_hooks.proofs.hooks.tell_delta.Goals as goal

pub returns-then-not-want-clause-heard : goal.returns-then-not-want-clause-heard
returns-then-not-want-clause-heard g c =
    let v : Inode = record { ino = c.args.ino; uid = c.args.uid } in
    λ vs os ps given moved apart up. delta_waits (g.L.Listener.stands_for c.args.listener.now) (g.met.L.Listener.any_order c.args.listener.now) c.args.cursor v (sym c.want.ensures ∙ c.if-not-want.true) c.args.rec.now c.args.add vs os ps given moved up

pub returns-clause-heard : goal.returns-clause-heard
returns-clause-heard g c =
    let v : Inode = record { ino = c.args.ino; uid = c.args.uid } in
    delta_told (g.L.Listener.stands_for c.args.listener.now) (g.L.Listener.stands_for c.delta.new.self) v c.args.cursor (sym c.want.ensures ∙ c.if-not-want.false) c.delta.result c.args.rec.now c.args.add c.delta.ensures.told
