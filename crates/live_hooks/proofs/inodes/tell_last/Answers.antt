use Rattle.live_hooks.specs.Heard.{Inode}
use Rattle.live_hooks.proofs.HeardLemmas.{last_told}
use Rattle.live_hooks.proofs.inodes.tell_last.Goals as goal

pub returns-clause-heard : goal.returns-clause-heard
returns-clause-heard g c =
    let v : Inode = record { ino = c.args.ino; uid = c.args.uid } in
    last_told (g.L.Listener.stands_for c.args.listener.now) (g.L.Listener.stands_for c.inode.new.self) v (g.met.L.Listener.any_order c.inode.new.self) c.inode.result c.inode.ensures.told
