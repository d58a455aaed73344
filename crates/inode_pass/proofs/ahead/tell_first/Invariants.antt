use Rattle.blk_device.specs.Reading.{OnlyTold}
use Rattle.inode_pass.proofs.ahead.tell_first.Given as goal

abbrev pub invariant-loop : goal.invariant-loop
invariant-loop g l = OnlyTold g.D.Device l.fn.dev l.dev
