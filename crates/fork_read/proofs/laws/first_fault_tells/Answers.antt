use Rattle.geom.specs.Places.{layout}
use Rattle.fork_read.proofs.LawLemmas.{pieces_whole}
use Rattle.fork_read.proofs.RangeLemmas.{refused_has}
use Rattle.fork_read.proofs.laws.first_fault_tells.Goals as goal

pub returns : goal.returns
returns c = λ image pieces.
    (λ h. (pieces_whole (layout c.args.geo.now) image c.args.core.now c.args.fork pieces h).good, λ from fault h k. refused_has (layout c.args.geo.now) image c.args.core.now c.args.fork pieces from fault h k)
