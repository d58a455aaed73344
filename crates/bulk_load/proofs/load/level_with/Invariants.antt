use Rattle.std.proofs.Common.{◌≤◌}
use Rattle.bulk_load.specs.Shapes.{start}
use Rattle.bulk_load.proofs.load.level_with.Given as goal

abbrev pub invariant-loop-level : goal.invariant-loop-level
invariant-loop-level l = start l.kind l.records l.level ≤ l.k
