use Rattle.std.proofs.Common.{◌≡◌, length, find}
use Rattle.fork_change.specs.Lists.{AllFit, meets}
use Rattle.fork_change.proofs.joins.mapping_before.Given as goal

abbrev pub invariant-loop-first : goal.invariant-loop-first
invariant-loop-first l = (find (λ p. meets l.geo.agblklog p l.m) l.rest ≡ find (λ p. meets l.geo.agblklog p l.m) l.list) × AllFit l.rest

abbrev pub decreases-loop-first : goal.decreases-loop-first
decreases-loop-first l = length l.rest
