use Rattle.std.proofs.Common.{◌≡◌, ◌-◌}
use Rattle.tree_defs.specs.Tree.{open_end}
use Rattle.tree_walk.specs.Trails.{trail_of}
use Rattle.tree_walk.proofs.seen.open_end_of.Given as goal

abbrev pub invariant-loop-level : goal.invariant-loop-level
invariant-loop-level g l = open_end (trail_of l.seen) l.level (l.levels - l.level) ≡ open_end (trail_of l.seen) 0 l.levels
