use Rattle.redo_area.specs.Area.{bytes_of}
use Rattle.meta_txn.proofs.WholeLemmas.{agrees_after}
use Rattle.meta_txn.proofs.commits.write_some.Goals as goal

pub returns-clause-agrees : goal.returns-clause-agrees
returns-clause-agrees g c =
    let d = g.D.Device in
    agrees_after c.args.cache.now c.note_all.new.cache (bytes_of c.args.batch.now) (d.content c.args.dev.now) (d.content c.write_whole.new.dev) c.in_ok-write_whole.ensures.image c.requires.agreed c.note_all.ensures.agrees
