use Rattle.core_parts.specs.Safe.{IsSafe}
use Rattle.test_inode_events.proofs.events.take_many.Given as goal

abbrev pub invariant-loop : goal.invariant-loop
invariant-loop g l = IsSafe g.D.Device l.parts
