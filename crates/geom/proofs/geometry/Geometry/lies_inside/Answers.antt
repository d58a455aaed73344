use Rattle.geom.specs.Places.{layout}
use Rattle.geom.proofs.ApartLemmas.{lies_inside}
use Rattle.geom.proofs.geometry.Geometry.lies_inside.Goals as goal

pub returns : goal.returns
returns c = lies_inside (layout c.args.self.now) c.args.self.now.fitting c.args.g c.args.b c.requires.group c.requires.block
