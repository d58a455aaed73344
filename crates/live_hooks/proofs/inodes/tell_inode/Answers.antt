use Rattle.std.proofs.Common.{sym, ◌∙◌}
use Rattle.live_hooks.specs.Heard.{Inode}
use Rattle.live_hooks.proofs.HeardLemmas.{inode_told, inode_waits}
use Rattle.live_hooks.proofs.inodes.tell_inode.Goals as goal

pub returns-then-not-want-clause-heard : goal.returns-then-not-want-clause-heard
returns-then-not-want-clause-heard g c =
    let v : Inode = record { ino = c.args.ino; uid = c.args.uid } in
    λ vs ws os given moved up. inode_waits (g.L.Listener.stands_for c.args.listener.now) (g.met.L.Listener.any_order c.args.listener.now) c.args.cursor v (sym c.want.ensures ∙ c.if-not-want.true) c.args.taken vs ws os given moved up

pub returns-clause-heard : goal.returns-clause-heard
returns-clause-heard g c =
    let v : Inode = record { ino = c.args.ino; uid = c.args.uid } in
    inode_told (g.L.Listener.stands_for c.args.listener.now) (g.L.Listener.stands_for c.inode.new.self) v c.args.cursor (sym c.want.ensures ∙ c.if-not-want.false) c.inode.result c.args.taken c.inode.ensures.told
