use Rattle.std.proofs.Common.{◌≡◌, length, find}
use Rattle.fork_change.specs.Lists.{AllFit, maps}
use Rattle.fork_change.proofs.lists.mapping_at.Given as goal

abbrev pub invariant-loop-first : goal.invariant-loop-first
invariant-loop-first l = (find (maps l.offset) l.rest ≡ find (maps l.offset) l.list) × AllFit l.rest

abbrev pub decreases-loop-first : goal.decreases-loop-first
decreases-loop-first l = length l.rest
