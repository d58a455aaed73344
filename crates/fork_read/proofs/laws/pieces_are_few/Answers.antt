use Rattle.geom.specs.Places.{layout}
use Rattle.fork_read.proofs.CountLemmas.{pieces_few}
use Rattle.fork_read.proofs.laws.pieces_are_few.Goals as goal

pub returns : goal.returns
returns c = λ image pieces from before now h s. pieces_few (layout c.args.geo.now) image c.args.core.now c.args.fork pieces from before now h s
