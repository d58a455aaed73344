use Rattle.core_parts.specs.Safe.{IsSafe}
use Rattle.test_writers.proofs.lists.act_all.Given as goal

-- the core stays safe
abbrev pub invariant-loop-one : goal.invariant-loop-one
invariant-loop-one g l = IsSafe g.D.Device l.core.parts
