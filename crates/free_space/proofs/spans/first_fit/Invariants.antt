use Rattle.std.proofs.Common.{◌≡◌, length, find, nat_le}
use Rattle.free_space.proofs.spans.first_fit.Given as goal

abbrev pub invariant-loop-first : goal.invariant-loop-first
invariant-loop-first l = find (λ r. nat_le l.wanted r.count) l.recs ≡ find (λ r. nat_le l.wanted r.count) l.rest

abbrev pub decreases-loop-first : goal.decreases-loop-first
decreases-loop-first l = length l.rest
