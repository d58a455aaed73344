use Rattle.core_parts.specs.Safe.{IsSafe}
use Rattle.test_writers.proofs.worlds.all_done.Given as goal

-- the core stays safe
abbrev pub invariant-loop-ask : goal.invariant-loop-ask
invariant-loop-ask g l = IsSafe g.D.Device l.core.parts
