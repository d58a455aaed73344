use Rattle.blk_device.specs.Moments.{sync_keeps}
use Rattle.blk_device.specs.Reading.{EachBlock}
use Rattle.blk_device.specs.ReadingLaws.{told_self}
use Rattle.inode_pass.proofs.ahead.tell_run.Goals as goal

pub returns-then-run-gt0 : goal.returns-then-run-gt0
returns-then-run-gt0 g c = record {
  same = c.will_read.ensures.same;
  sizes = c.will_read.ensures.sizes;
  faults = c.will_read.ensures.faults;
  reads = c.will_read.ensures.reads;
  crash = sync_keeps g.D.Device.clock g.D.Device.may_have_held_since g.D.Device.may_hold_now g.met.D.Device.only_now g.met.D.Device.counts_now EachBlock c.args.dev.now c.will_read.new.self c.will_read.ensures.crash c.will_read.ensures.time;
}

pub returns-else-run-gt0 : goal.returns-else-run-gt0
returns-else-run-gt0 g c = told_self g.D.Device g.met.D.Device.only_now g.met.D.Device.counts_now c.args.dev.now
