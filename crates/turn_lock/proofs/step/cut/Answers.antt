use Rattle.std.proofs.Common.{arith}
use Rattle.turn_lock.proofs.Steps.{split_allows}
use Rattle.turn_lock.proofs.step.cut.Goals as goal

pub split_seat-requires : goal.split_seat-requires
split_seat-requires g c = (
  c.requires.same,
  omega (arith, c.requires.words),
  split_allows g.T.Recorded.journal g.T.Recorded.origin g.T.Recorded.kept _ _ _ _ c.requires.idle.0 c.requires.idle.1 (rw c.requires.cut c.requires.lower),
)
