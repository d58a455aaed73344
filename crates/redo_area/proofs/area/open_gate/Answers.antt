use Rattle.blk_device.proofs.Moments.{at_end}
use Rattle.blk_device.specs.Contents.{put}
use Rattle.blk_device.specs.Crash.{Reached}
use Rattle.blk_device.specs.declared.device.Region.TheVariants.{Image, Redo}
use Rattle.redo_area.specs.Area.{AllButGate}
use Rattle.redo_area.specs.Stages.{IsReady, IsReadyBut, Opens, OpensBut}
use Rattle.redo_area.proofs.AreaLaws.{opened_but, opened_law}
use Rattle.redo_area.proofs.Steps.{ended, while_gate, while_gate_but}
use Rattle.redo_area.proofs.area.open_gate.Goals as goal

pub returns-clause-any_moment : goal.returns-clause-any_moment
returns-clause-any_moment g c =
    let d = g.D.Device in
    λ batch. while_gate d.clock d.may_have_held_since d.may_hold_now (d.blocks c.args.dev.now Image) c.args.dev.now c.write_gate.new.dev (d.content c.args.dev.now) batch c.write_gate.ensures.moments

pub returns-clause-opened : goal.returns-clause-opened
returns-clause-opened g c =
    let d = g.D.Device in
    let met = g.met.D.Device in
    let old = c.args.dev.now in
    let new = c.write_gate.new.dev in
    let size = d.blocks old Image in
    let gate = c.gate_block.result.bytes in
    λ batch ready. ended c.write_gate.result (d.content old) (d.content new) (d.may_hold_now new) (put Redo 0 gate) Redo (IsReady size batch (d.may_hold_now old)) (Opens size batch (d.may_hold_now new))
    c.write_gate.ensures.written c.write_gate.ensures.durable ready
    (λ m s durable. opened_law size (d.may_hold_now old) m s.quiet (d.may_hold_now new) batch gate c.gate_block.ensures.first s.stands s.sound
    (at_end d.clock d.may_have_held_since d.may_hold_now met.only_now met.counts_now old new (Reached AllButGate (d.may_hold_now old)) c.write_gate.ensures.moments) durable)

pub returns-clause-any_moment_but : goal.returns-clause-any_moment_but
returns-clause-any_moment_but g c =
    let d = g.D.Device in
    λ K batch. while_gate_but d.clock d.may_have_held_since d.may_hold_now (d.blocks c.args.dev.now Image) c.args.dev.now c.write_gate.new.dev (d.content c.args.dev.now) K batch c.write_gate.ensures.moments

pub returns-clause-opened_but : goal.returns-clause-opened_but
returns-clause-opened_but g c =
    let d = g.D.Device in
    let met = g.met.D.Device in
    let old = c.args.dev.now in
    let new = c.write_gate.new.dev in
    let size = d.blocks old Image in
    let gate = c.gate_block.result.bytes in
    λ K batch ready. ended c.write_gate.result (d.content old) (d.content new) (d.may_hold_now new) (put Redo 0 gate) Redo (IsReadyBut K size batch (d.may_hold_now old)) (OpensBut K size batch (d.may_hold_now new))
    c.write_gate.ensures.written c.write_gate.ensures.durable ready
    (λ m s durable. opened_but K size (d.may_hold_now old) m s.quiet (d.may_hold_now new) batch gate c.gate_block.ensures.first s.stands s.sound
    (at_end d.clock d.may_have_held_since d.may_hold_now met.only_now met.counts_now old new (Reached AllButGate (d.may_hold_now old)) c.write_gate.ensures.moments) durable)
