use Rattle.blk_device.specs.Moments.{sync_keeps}
use Rattle.blk_device.specs.Reading.{EachBlock}
use Rattle.xscrub.proofs.judging.first_block.Goals as goal

pub returns-in-Ok-clause-crash : goal.returns-in-Ok-clause-crash
returns-in-Ok-clause-crash g c =
    sync_keeps g.D.Device.clock g.D.Device.may_have_held_since g.D.Device.may_hold_now g.met.D.Device.only_now g.met.D.Device.counts_now EachBlock c.args.dev.now c.read.new.self c.read.ensures.crash c.read.ensures.time

pub returns-in-Err-clause-crash : goal.returns-in-Err-clause-crash
returns-in-Err-clause-crash g c =
    sync_keeps g.D.Device.clock g.D.Device.may_have_held_since g.D.Device.may_hold_now g.met.D.Device.only_now g.met.D.Device.counts_now EachBlock c.args.dev.now c.read.new.self c.read.ensures.crash c.read.ensures.time
