use Rattle.std.proofs.Common.{◌≡◌, map, take}
use Rattle.core_units.specs.Released.{lost_runs}
use Rattle.core_units.proofs.released.lost_limbo.Given as goal

abbrev pub invariant-loop-run : goal.invariant-loop-run
invariant-loop-run l = l.runs.items ≡ lost_runs l.owner (take l.run-index l.lost)
