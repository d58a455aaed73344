use Rattle.std.proofs.Common.{arith, ap, ◌∙◌}
use Rattle.turn_lock.proofs.Steps.{join_allows, settle_allows}
use Rattle.turn_lock.proofs.step.unite.Goals as goal

pub join_seat-requires : goal.join_seat-requires
join_seat-requires g c = let i = c.requires.idle in let o = c.requires.other in (
  c.requires.same.0,
  c.requires.same.1,
  o.2,
  omega (arith, c.requires.words),
  join_allows g.T.Recorded.journal g.T.Recorded.origin g.T.Recorded.kept _ _ _ _ _ i.0 i.1 o.0 o.1,
)

pub load-requires : goal.load-requires
load-requires g c = let e = c.join_seat.ensures in (
  e.0 ∙ c.requires.same.0,
  omega (arith, c.requires.words),
  settle_allows g.T.Recorded.journal g.T.Recorded.origin g.T.Recorded.kept _ _ _ _ (ap (λ m. m.0.told) e.2 ∙ c.requires.idle.1),
)
