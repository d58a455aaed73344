use Rattle.core_parts.specs.Safe.{IsSafe}
use Rattle.test_writers.proofs.lists.whole.Given as goal

-- the core stays safe
abbrev pub invariant-loop : goal.invariant-loop
invariant-loop g l = IsSafe g.D.Device l.core.parts
