use Rattle.std.proofs.Common.{◌≡◌, ◌≤◌, ◌++◌, length, take, map}
use Rattle.unit_plan.specs.Lost.{of_run}
use Rattle.unit_plan.proofs.lost.put_runs.Given as goal

abbrev pub invariant-loop-run : goal.invariant-loop-run
invariant-loop-run l = (l.run-index ≤ length l.runs) × (l.held.items ≡ l.initial.held.items ++ map of_run (take l.run-index l.runs))
