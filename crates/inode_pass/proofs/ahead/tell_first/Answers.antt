use Rattle.blk_device.specs.ReadingLaws.{told_self, told_on}
use Rattle.inode_pass.proofs.ahead.tell_first.Goals as goal

pub loop-init : goal.loop-init
loop-init g c = told_self g.D.Device g.met.D.Device.only_now g.met.D.Device.counts_now c.args.dev.now

pub loop-preserved : goal.loop-preserved
loop-preserved g c = told_on g.D.Device g.met.D.Device.only_now g.met.D.Device.counts_now c.args.dev.now c.loop.dev c.tell_next.new.dev c.loop.invariant c.tell_next.ensures
