use Rattle.live_hooks.specs.Heard.{Inode}
use Rattle.live_hooks.proofs.HeardLemmas.{piece_told}
use Rattle.live_hooks.proofs.hooks.tell_piece.Goals as goal

pub returns-clause-heard : goal.returns-clause-heard
returns-clause-heard g c =
    let v : Inode = record { ino = c.args.ino; uid = c.args.uid } in
    piece_told (g.L.Listener.stands_for c.args.listener.now) (g.L.Listener.stands_for c.piece.new.self) v c.piece.result c.args.rec.now c.piece.ensures.told
