use Rattle.core_parts.specs.Safe.{IsSafe}
use Rattle.test_writers.proofs.lists.act_lists.Given as goal

-- the core stays safe
abbrev pub invariant-loop-list : goal.invariant-loop-list
invariant-loop-list g l = IsSafe g.D.Device l.core.parts
