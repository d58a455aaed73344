use Rattle.blk_device.specs.declared.record.Call.TheVariants.{Doubted}
use Rattle.blk_device.proofs.RecordLemmas.{added_time, doubt_crash, doubt_seen}
use Rattle.blk_device.proofs.memory.MemDevice.doubt.Goals as goal

pub returns-clause-same : goal.returns-clause-same
returns-clause-same c = doubt_seen c.doubt-is_kept.result c.args.region c.args.at c.args.from.now c.args.self.now.log c.doubt-is_kept.new.self c.doubt-is_kept.ensures.calls

pub returns-clause-crash : goal.returns-clause-crash
returns-clause-crash c = doubt_crash c.doubt-is_kept.result c.args.region c.args.at c.args.from.now c.args.self.now.log c.doubt-is_kept.new.self c.doubt-is_kept.ensures.calls

pub returns-clause-time : goal.returns-clause-time
returns-clause-time c = added_time c.doubt-is_kept.result (Doubted c.args.region c.args.at c.args.from.now) c.args.self.now.log c.doubt-is_kept.new.self c.doubt-is_kept.ensures.calls
