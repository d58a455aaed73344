use Rattle.std.proofs.Common.{◌≡◌, length}
use Rattle.std.specs.List.{list_any}
use Rattle.fork_change.specs.Lists.{AllFit, overlaps}
use Rattle.fork_change.proofs.lists.is_occupied.Given as goal

abbrev pub invariant-loop-first : goal.invariant-loop-first
invariant-loop-first l = (list_any (overlaps l.m) l.rest ≡ list_any (overlaps l.m) l.list) × AllFit l.rest

abbrev pub decreases-loop-first : goal.decreases-loop-first
decreases-loop-first l = length l.rest
