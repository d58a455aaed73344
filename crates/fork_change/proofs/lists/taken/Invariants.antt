use Rattle.std.proofs.Common.{◌≡◌, length, ◌++◌}
use Rattle.std.specs.List.{flat_map}
use Rattle.fork_change.specs.Lists.{AllFit, rest_of}
use Rattle.fork_change.proofs.lists.taken.Given as goal

abbrev pub invariant-loop-first : goal.invariant-loop-first
invariant-loop-first l = (l.new.items ++ flat_map (rest_of l.offset l.count) l.rest ≡ flat_map (rest_of l.offset l.count) l.list) × AllFit l.rest × AllFit l.new.items

abbrev pub decreases-loop-first : goal.decreases-loop-first
decreases-loop-first l = length l.rest
