use Rattle.blk_device.specs.ReadingLaws.{read_on}
use Rattle.geom.specs.Places.{layout}
use Rattle.core_scan.proofs.Delivered.{scans_both, scans_kept}
use Rattle.core_scan.proofs.read.read_held.Goals as goal

pub returns-clause-kept : goal.returns-clause-kept
returns-clause-kept g c =
    scans_both (layout c.args.geo.now) (g.D.Device.content c.args.dev.now) (g.D.Device.content c.read_core.new.dev) c.args.scan.now c.note_user-noted.new.scan c.give_some.new.scan c.in_ok-core.ensures.reading.same c.note_user-noted.ensures.group
    (scans_kept (layout c.args.geo.now) (g.D.Device.content c.args.dev.now) c.args.scan.now c.note_user-noted.new.scan c.note_user-noted.ensures.kept) c.give_some.ensures.kept

pub returns-clause-reading : goal.returns-clause-reading
returns-clause-reading g c =
    read_on g.D.Device g.met.D.Device.only_now g.met.D.Device.counts_now c.args.dev.now c.read_core.new.dev c.give_some.new.dev c.args.steps.now c.read_core.new.steps c.give_some.new.steps c.in_ok-core.ensures.reading c.give_some.ensures.reading
