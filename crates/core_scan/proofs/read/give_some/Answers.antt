use Rattle.blk_device.specs.ReadingLaws.{read_on}
use Rattle.geom.specs.Places.{layout}
use Rattle.core_scan.proofs.Delivered.{scans_both}
use Rattle.core_scan.proofs.read.give_some.Goals as goal

pub returns-clause-kept : goal.returns-clause-kept
returns-clause-kept g c =
    scans_both (layout c.args.geo.now) (g.D.Device.content c.args.dev.now) (g.D.Device.content c.give_next.new.dev) c.args.scan.now c.give_next.new.scan c.give_next-2.new.scan c.in_ok-done.ensures.reading.same c.in_ok-done.ensures.stays.group c.in_ok-done.ensures.kept c.give_next-2.ensures.kept

pub returns-clause-reading : goal.returns-clause-reading
returns-clause-reading g c =
    read_on g.D.Device g.met.D.Device.only_now g.met.D.Device.counts_now c.args.dev.now c.give_next.new.dev c.give_next-2.new.dev c.args.steps.now c.give_next.new.steps c.give_next-2.new.steps c.in_ok-done.ensures.reading c.give_next-2.ensures.reading
