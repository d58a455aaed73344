use Rattle.geom.specs.Places.{layout}
use Rattle.fork_read.proofs.LawLemmas.{pieces_whole}
use Rattle.fork_read.proofs.laws.pieces_join.Goals as goal

pub returns : goal.returns
returns c = λ image pieces h. pieces_whole (layout c.args.geo.now) image c.args.core.now c.args.fork pieces h
