use Rattle.live_fs.proofs.EndLemmas.{run_some}
use Rattle.live_fs.proofs.running.run_parts.Goals as goal

pub returns-in-Ok : goal.returns-in-Ok
returns-in-Ok g c = record { run = run_some g.D.Device c.args.parts _ _ c.in-Ok.ensures.origin c.run_live.ensures.run }
