use Rattle.std.proofs.Common.{arith}
use Rattle.turn_lock.proofs.Steps.{serve_allows}
use Rattle.turn_lock.proofs.step.serve.Goals as goal

pub fetch_add-requires : goal.fetch_add-requires
fetch_add-requires g c = let o = c.requires.out in (
  c.requires.same,
  omega (arith, c.requires.words),
  serve_allows g.T.Recorded.journal g.T.Recorded.origin g.T.Recorded.kept _ _ _ _ o.0 _ o.1 o.2,
)
