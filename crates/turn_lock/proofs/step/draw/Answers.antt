use Rattle.std.proofs.Common.{arith}
use Rattle.turn_lock.proofs.Steps.{draw_allows}
use Rattle.turn_lock.proofs.step.draw.Goals as goal

pub fetch_add-requires : goal.fetch_add-requires
fetch_add-requires g c = (
  c.requires.same,
  omega (arith, c.requires.words),
  draw_allows g.T.Recorded.journal g.T.Recorded.origin g.T.Recorded.kept _ _ _ _ c.requires.idle.0 c.requires.idle.1 c.requires.speaks,
)
