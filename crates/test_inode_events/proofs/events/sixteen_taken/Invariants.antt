use Rattle.core_parts.specs.Safe.{IsSafe}
use Rattle.test_inode_events.proofs.events.sixteen_taken.Given as goal

abbrev pub invariant-loop-i : goal.invariant-loop-i
invariant-loop-i g l = IsSafe g.D.Device l.parts
