use Rattle.std.proofs.Common.{true, ◌∙◌}
use Rattle.blk_device.specs.declared.record.Call.TheVariants.{Wrote}
use Rattle.blk_device.proofs.RecordLemmas.{added_time, write_any, stays_seen, stayed_time, stayed_any}
use Rattle.blk_device.proofs.memory.MemDeviceDevice.write.Goals as goal

pub returns-in-Ok-clause-time : goal.returns-in-Ok-clause-time
returns-in-Ok-clause-time c = added_time true (Wrote c.args.region c.args.at c.args.from.now) c.args.self.now.log c.try_write.new.self.log c.in-Ok.ensures.log

pub returns-in-Ok-clause-torn : goal.returns-in-Ok-clause-torn
returns-in-Ok-clause-torn c = write_any c.args.region c.args.at c.args.from.now c.args.self.now.log c.try_write.new.self.log c.in-Ok.ensures.log

pub returns-in-Err-clause-doubt : goal.returns-in-Err-clause-doubt
returns-in-Err-clause-doubt c =
    let same = c.doubt.ensures.same ∙ stays_seen c.args.self.now.log c.try_write.new.self.log c.in-Err.ensures.log in
    λ s b out i. same i s b

pub returns-in-Err-clause-time : goal.returns-in-Err-clause-time
returns-in-Err-clause-time c = stayed_time c.args.self.now.log c.try_write.new.self.log c.doubt.new.self.log c.in-Err.ensures.log c.doubt.ensures.time

pub returns-in-Err-clause-torn_failed : goal.returns-in-Err-clause-torn_failed
returns-in-Err-clause-torn_failed c =
    λ kept. stayed_any c.args.region c.args.at c.args.self.now.log c.try_write.new.self.log c.doubt.new.self.log c.in-Err.ensures.log (c.doubt.ensures.left kept)
