use Rattle.std.proofs.Common.{arith}
use Rattle.geom.specs.Places.{layout}
use Rattle.geom.proofs.ApartLemmas.{lies_inside}
use Rattle.core_scan.proofs.read.read_core.Goals as goal

pub load_block-requires : goal.load_block-requires
load_block-requires g c =
    let place = c.in-Some.ensures.place in
    let inside = lies_inside (layout c.args.geo.now) c.args.geo.now.fitting c.in-Some.place.0 c.in-Some.place.1 place.group place.block in
    omega (arith, inside, c.device_block-at.ensures, c.requires.room)
