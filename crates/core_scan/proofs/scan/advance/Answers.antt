use Rattle.geom.specs.Places.{layout}
use Rattle.core_scan.proofs.Begun.{advances}
use Rattle.core_scan.proofs.scan.advance.Goals as goal

pub returns-clause-moved : goal.returns-clause-moved
returns-clause-moved c d =
    advances (layout d.args.geo.now) (c.D.Device.content d.args.dev.now) d.args.trees.now d.args.drain.now d.args.scan.now d.place.new.scan d.in_ok-found.found d.place.result d.in_ok-found.ensures.right d.place.ensures.moved
