use Rattle.live_fs.proofs.PassLemmas.{turned_on}
use Rattle.live_fs.proofs.live.LiveFs.turn_event.Goals as goal

pub returns : goal.returns
returns g c =
    let t = c.turn.ensures.turned in
    record { on = turned_on _ _ _ c.args.self.now.lock c.args.self.now.origin c.args.pass.now c.turn.new.pass t.0 t.1 c.requires.pass c.turn.ensures.belongs t.3 }
