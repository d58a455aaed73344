use Rattle.std.proofs.Common.{Some, ap}
use Rattle.blk_device.specs.Contents.{Contents}
use Rattle.blk_device.proofs.RecordLemmas.{stays_time, stays_seen, stays_crash, stay_both, is_same}
use Rattle.blk_device.proofs.memory.MemDeviceDevice.read.Goals as goal

pub returns-in_err-ask-clause-time : goal.returns-in_err-ask-clause-time
returns-in_err-ask-clause-time c = stays_time c.args.self.now.log c.ask.new.self.log (is_same c.args.self.now.log c.ask.new.self.log c.ask.ensures.log)

pub returns-clause-same : goal.returns-clause-same
returns-clause-same c =
    let asked = is_same c.args.self.now.log c.ask.new.self.log c.ask.ensures.log in
    ap (λ (x : Contents). Some x) (stays_seen c.args.self.now.log c.count_read.new.self (stay_both c.args.self.now.log c.ask.new.self.log c.count_read.new.self asked c.count_read.ensures.calls))

pub returns-clause-crash : goal.returns-clause-crash
returns-clause-crash c =
    let asked = is_same c.args.self.now.log c.ask.new.self.log c.ask.ensures.log in
    stays_crash c.args.self.now.log c.count_read.new.self (stay_both c.args.self.now.log c.ask.new.self.log c.count_read.new.self asked c.count_read.ensures.calls)

pub returns-clause-time : goal.returns-clause-time
returns-clause-time c =
    let asked = is_same c.args.self.now.log c.ask.new.self.log c.ask.ensures.log in
    stays_time c.args.self.now.log c.count_read.new.self (stay_both c.args.self.now.log c.ask.new.self.log c.count_read.new.self asked c.count_read.ensures.calls)
