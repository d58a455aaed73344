use Rattle.std.proofs.Common.{◌≤◌, ◌-◌}
use Rattle.bulk_load.specs.Shapes.{HasLevel, IsRow}
use Rattle.bulk_load.proofs.levels.shape.Given as goal

abbrev pub invariant-loop-row : goal.invariant-loop-row
invariant-loop-row l = (1 ≤ l.levels) × HasLevel l.kind l.n (l.levels - 1) × IsRow l.kind l.n (l.levels - 1) l.row

abbrev pub decreases-loop-row : goal.decreases-loop-row
decreases-loop-row l = l.row.width
