use Rattle.std.proofs.Common.{Some, ap}
use Rattle.blk_device.specs.Contents.{Contents}
use Rattle.blk_device.specs.declared.record.Call.TheVariants.{Synced}
use Rattle.blk_device.proofs.RecordLemmas.{stays_time, stays_other, is_same, added_time, from_same, sync_crash, sync_other, sync_seen, sync_settled}
use Rattle.blk_device.proofs.memory.MemDeviceDevice.sync.Goals as goal

pub returns-in_err-ask-clause-time : goal.returns-in_err-ask-clause-time
returns-in_err-ask-clause-time c = stays_time c.args.self.now.log c.ask.new.self.log (is_same c.args.self.now.log c.ask.new.self.log c.ask.ensures.log)

pub returns-clause-same : goal.returns-clause-same
returns-clause-same c =
    let adds = from_same c.sync-is_kept.result (Synced c.args.region) c.args.self.now.log c.ask.new.self.log c.sync-is_kept.new.self c.ask.ensures.log c.sync-is_kept.ensures.calls in
    ap (λ (x : Contents). Some x) (sync_seen c.sync-is_kept.result c.args.region c.args.self.now.log c.sync-is_kept.new.self adds)

pub returns-clause-crash : goal.returns-clause-crash
returns-clause-crash c =
    let adds = from_same c.sync-is_kept.result (Synced c.args.region) c.args.self.now.log c.ask.new.self.log c.sync-is_kept.new.self c.ask.ensures.log c.sync-is_kept.ensures.calls in
    sync_crash c.sync-is_kept.result c.args.region c.args.self.now.log c.sync-is_kept.new.self adds

pub returns-clause-time : goal.returns-clause-time
returns-clause-time c =
    let adds = from_same c.sync-is_kept.result (Synced c.args.region) c.args.self.now.log c.ask.new.self.log c.sync-is_kept.new.self c.ask.ensures.log c.sync-is_kept.ensures.calls in
    added_time c.sync-is_kept.result (Synced c.args.region) c.args.self.now.log c.sync-is_kept.new.self adds

pub returns-in_err-ask-clause-other : goal.returns-in_err-ask-clause-other
returns-in_err-ask-clause-other c = stays_other c.args.region c.args.self.now.log c.ask.new.self.log (is_same c.args.self.now.log c.ask.new.self.log c.ask.ensures.log)

pub returns-clause-other : goal.returns-clause-other
returns-clause-other c =
    let adds = from_same c.sync-is_kept.result (Synced c.args.region) c.args.self.now.log c.ask.new.self.log c.sync-is_kept.new.self c.ask.ensures.log c.sync-is_kept.ensures.calls in
    sync_other c.sync-is_kept.result c.args.region c.args.self.now.log c.sync-is_kept.new.self adds

pub returns-clause-settled : goal.returns-clause-settled
returns-clause-settled c =
    let adds = from_same c.sync-is_kept.result (Synced c.args.region) c.args.self.now.log c.ask.new.self.log c.sync-is_kept.new.self c.ask.ensures.log c.sync-is_kept.ensures.calls in
    sync_settled c.answer.result c.sync-is_kept.result c.args.region c.args.self.now.log c.sync-is_kept.new.self c.answer.ensures.exact adds
