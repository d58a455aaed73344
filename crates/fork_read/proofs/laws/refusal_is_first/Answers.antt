use Rattle.geom.specs.Places.{layout}
use Rattle.fork_read.proofs.LawLemmas.{refused_first}
use Rattle.fork_read.proofs.laws.refusal_is_first.Goals as goal

pub returns : goal.returns
returns c = λ image pieces from fault h k. refused_first (layout c.args.geo.now) image c.args.core.now c.args.fork pieces from fault h k
