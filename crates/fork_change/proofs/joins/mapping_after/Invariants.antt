use Rattle.std.proofs.Common.{◌≡◌, length, find}
use Rattle.fork_change.specs.Lists.{AllFit, meets}
use Rattle.fork_change.proofs.joins.mapping_after.Given as goal

abbrev pub invariant-loop-first : goal.invariant-loop-first
invariant-loop-first l = (find (λ q. meets l.geo.agblklog l.m q) l.rest ≡ find (λ q. meets l.geo.agblklog l.m q) l.list) × AllFit l.rest

abbrev pub decreases-loop-first : goal.decreases-loop-first
decreases-loop-first l = length l.rest
