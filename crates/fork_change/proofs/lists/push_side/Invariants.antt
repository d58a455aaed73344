use Rattle.std.proofs.Common.{◌≡◌, length, ◌++◌, filter}
use Rattle.fork_change.specs.Lists.{AllFit, is_side}
use Rattle.fork_change.proofs.lists.push_side.Given as goal

abbrev pub invariant-loop-first : goal.invariant-loop-first
invariant-loop-first l = (l.new.items ++ filter (is_side l.geo.agblklog l.added l.grown l.before) l.rest ≡ l.initial.new.items ++ filter (is_side l.geo.agblklog l.added l.grown l.before) l.list) × AllFit l.rest

abbrev pub decreases-loop-first : goal.decreases-loop-first
decreases-loop-first l = length l.rest
