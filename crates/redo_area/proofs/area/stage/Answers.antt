use Rattle.std.proofs.Common.{arith}
use Rattle.blk_device.specs.declared.device.Region.TheVariants.{Redo}
use Rattle.blk_device.proofs.Moments.{write_keeps, sync_keeps, then_keeps}
use Rattle.redo_area.specs.Area.{BehindGate}
use Rattle.redo_area.proofs.ToldLemmas.{told_doubted, told_on, told_same}
use Rattle.redo_area.proofs.area.stage.Goals as goal

pub returns-in_err-write-clause-moments : goal.returns-in_err-write-clause-moments
returns-in_err-write-clause-moments g c =
    let d = g.D.Device in
    let met = g.met.D.Device in
    write_keeps d.clock d.may_have_held_since d.may_hold_now met.only_now met.counts_now BehindGate Redo 1 c.args.dev.now c.write.new.self (λ here. omega (arith, here)) c.write.ensures.crash c.write.ensures.time

pub returns-in_err-write_copies-clause-moments : goal.returns-in_err-write_copies-clause-moments
returns-in_err-write_copies-clause-moments g c =
    let d = g.D.Device in
    let met = g.met.D.Device in
    then_keeps d.clock d.may_have_held_since d.may_hold_now met.only_now met.counts_now BehindGate c.args.dev.now c.write.new.self c.write_copies.new.dev
    (write_keeps d.clock d.may_have_held_since d.may_hold_now met.only_now met.counts_now BehindGate Redo 1 c.args.dev.now c.write.new.self (λ here. omega (arith, here)) c.write.ensures.crash c.write.ensures.time)
    c.write_copies.ensures.moments

pub returns-clause-moments : goal.returns-clause-moments
returns-clause-moments g c =
    let d = g.D.Device in
    let met = g.met.D.Device in
    then_keeps d.clock d.may_have_held_since d.may_hold_now met.only_now met.counts_now BehindGate c.args.dev.now c.write_copies.new.dev c.sync.new.self
    (then_keeps d.clock d.may_have_held_since d.may_hold_now met.only_now met.counts_now BehindGate c.args.dev.now c.write.new.self c.write_copies.new.dev
    (write_keeps d.clock d.may_have_held_since d.may_hold_now met.only_now met.counts_now BehindGate Redo 1 c.args.dev.now c.write.new.self (λ here. omega (arith, here)) c.write.ensures.crash c.write.ensures.time)
    c.write_copies.ensures.moments)
    (sync_keeps d.clock d.may_have_held_since d.may_hold_now met.only_now met.counts_now BehindGate c.write_copies.new.dev c.sync.new.self c.sync.ensures.crash c.sync.ensures.time)

pub returns-in_err-write-clause-told : goal.returns-in_err-write-clause-told
returns-in_err-write-clause-told g c = told_doubted Redo 1 (g.D.Device.content c.args.dev.now) (g.D.Device.content c.write.new.self) c.write.ensures.doubt

pub returns-in_err-write_copies-clause-told : goal.returns-in_err-write_copies-clause-told
returns-in_err-write_copies-clause-told g c =
    let d = g.D.Device in
    told_on (d.content c.args.dev.now) (d.content c.write.new.self) (d.content c.write_copies.new.dev) (told_doubted Redo 1 (d.content c.args.dev.now) (d.content c.write.new.self) c.write.ensures.doubt) c.write_copies.ensures.told

pub returns-clause-told : goal.returns-clause-told
returns-clause-told g c =
    let d = g.D.Device in
    told_on (d.content c.args.dev.now) (d.content c.write_copies.new.dev) (d.content c.sync.new.self)
    (told_on (d.content c.args.dev.now) (d.content c.write.new.self) (d.content c.write_copies.new.dev) (told_doubted Redo 1 (d.content c.args.dev.now) (d.content c.write.new.self) c.write.ensures.doubt) c.write_copies.ensures.told)
    (told_same (d.content c.write_copies.new.dev) (d.content c.sync.new.self) c.sync.ensures.same)
