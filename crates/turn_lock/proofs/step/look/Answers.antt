use Rattle.std.proofs.Common.{arith}
use Rattle.turn_lock.proofs.Steps.{look_allows}
use Rattle.turn_lock.proofs.step.look.Goals as goal

pub load-requires : goal.load-requires
load-requires g c = (
  c.requires.same,
  omega (arith, c.requires.words),
  look_allows g.T.Recorded.journal g.T.Recorded.origin g.T.Recorded.kept _ _ _ _ c.requires.waits.0 c.requires.waits.1 c.requires.quiet,
)
