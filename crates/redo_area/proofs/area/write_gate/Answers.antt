use Rattle.std.proofs.Common.{arith}
use Rattle.blk_device.specs.declared.device.Region.TheVariants.{Redo}
use Rattle.blk_device.proofs.Moments.{write_keeps, sync_keeps, then_keeps}
use Rattle.redo_area.specs.Area.{AllButGate}
use Rattle.redo_area.proofs.ToldLemmas.{told_doubted, told_on, told_same}
use Rattle.redo_area.proofs.area.write_gate.Goals as goal

pub returns-in_err-write-clause-moments : goal.returns-in_err-write-clause-moments
returns-in_err-write-clause-moments g c =
    let d = g.D.Device in
    let met = g.met.D.Device in
    write_keeps d.clock d.may_have_held_since d.may_hold_now met.only_now met.counts_now AllButGate Redo 0 c.args.dev.now c.write.new.self (λ here. omega (arith, here)) c.write.ensures.crash c.write.ensures.time

pub returns-clause-moments : goal.returns-clause-moments
returns-clause-moments g c =
    let d = g.D.Device in
    let met = g.met.D.Device in
    then_keeps d.clock d.may_have_held_since d.may_hold_now met.only_now met.counts_now AllButGate c.args.dev.now c.write.new.self c.sync.new.self
    (write_keeps d.clock d.may_have_held_since d.may_hold_now met.only_now met.counts_now AllButGate Redo 0 c.args.dev.now c.write.new.self (λ here. omega (arith, here)) c.write.ensures.crash c.write.ensures.time)
    (sync_keeps d.clock d.may_have_held_since d.may_hold_now met.only_now met.counts_now AllButGate c.write.new.self c.sync.new.self c.sync.ensures.crash c.sync.ensures.time)

pub returns-in_err-write-clause-told : goal.returns-in_err-write-clause-told
returns-in_err-write-clause-told g c = told_doubted Redo 0 (g.D.Device.content c.args.dev.now) (g.D.Device.content c.write.new.self) c.write.ensures.doubt

pub returns-clause-told : goal.returns-clause-told
returns-clause-told g c =
    let d = g.D.Device in
    told_on (d.content c.args.dev.now) (d.content c.write.new.self) (d.content c.sync.new.self) (told_doubted Redo 0 (d.content c.args.dev.now) (d.content c.write.new.self) c.write.ensures.doubt)
    (told_same (d.content c.write.new.self) (d.content c.sync.new.self) c.sync.ensures.same)
