use Rattle.geom.specs.Places.{layout}
use Rattle.fork_read.proofs.PartLemmas.{piece_part}
use Rattle.fork_read.proofs.laws.pieces_are_parts.Goals as goal

pub returns : goal.returns
returns c = λ image from piece h good. piece_part (layout c.args.geo.now) image c.args.core.now c.args.fork from piece h good
