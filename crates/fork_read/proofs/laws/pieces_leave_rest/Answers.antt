use Rattle.geom.specs.Places.{layout}
use Rattle.fork_read.proofs.LeftLemmas.{leaves_rest}
use Rattle.fork_read.proofs.laws.pieces_leave_rest.Goals as goal

pub returns : goal.returns
returns c = λ image pieces next h some good. leaves_rest (layout c.args.geo.now) image c.args.core.now c.args.fork pieces next h some good
