use Rattle.blk_device.proofs.Moments.{at_end}
use Rattle.blk_device.specs.Contents.{put}
use Rattle.blk_device.specs.Crash.{Reached}
use Rattle.blk_device.specs.declared.device.Region.TheVariants.{Image, Redo}
use Rattle.redo_area.specs.Area.{AllButGate}
use Rattle.redo_area.specs.Stages.{Ends, EndsBut, IsInstalled, IsInstalledBut}
use Rattle.redo_area.proofs.AreaLaws.{closed_but, closed_law}
use Rattle.redo_area.proofs.Steps.{ended, while_closing, while_closing_but}
use Rattle.redo_area.proofs.area.close_gate.Goals as goal

pub returns-clause-any_moment : goal.returns-clause-any_moment
returns-clause-any_moment g c =
    let d = g.D.Device in
    while_closing d.clock d.may_have_held_since d.may_hold_now (d.blocks c.args.dev.now Image) c.args.dev.now c.write_gate.new.dev (d.content c.args.dev.now) c.write_gate.ensures.moments

pub returns-clause-ended : goal.returns-clause-ended
returns-clause-ended g c =
    let d = g.D.Device in
    let met = g.met.D.Device in
    let old = c.args.dev.now in
    let new = c.write_gate.new.dev in
    let size = d.blocks old Image in
    let gate = c.gate_block.result.bytes in
    λ installed. ended c.write_gate.result (d.content old) (d.content new) (d.may_hold_now new) (put Redo 0 gate) Redo (IsInstalled size (d.may_hold_now old)) (λ m. Ends (m Image) (d.may_hold_now new))
    c.write_gate.ensures.written c.write_gate.ensures.durable installed
    (λ m s durable. closed_law size (d.may_hold_now old) m s.quiet (d.may_hold_now new) gate c.gate_block.ensures.first
    (at_end d.clock d.may_have_held_since d.may_hold_now met.only_now met.counts_now old new (Reached AllButGate (d.may_hold_now old)) c.write_gate.ensures.moments) durable)

pub returns-clause-any_moment_but : goal.returns-clause-any_moment_but
returns-clause-any_moment_but g c =
    let d = g.D.Device in
    λ K. while_closing_but d.clock d.may_have_held_since d.may_hold_now (d.blocks c.args.dev.now Image) c.args.dev.now c.write_gate.new.dev (d.content c.args.dev.now) K c.write_gate.ensures.moments

pub returns-clause-ended_but : goal.returns-clause-ended_but
returns-clause-ended_but g c =
    let d = g.D.Device in
    let met = g.met.D.Device in
    let old = c.args.dev.now in
    let new = c.write_gate.new.dev in
    let size = d.blocks old Image in
    let gate = c.gate_block.result.bytes in
    λ K installed. ended c.write_gate.result (d.content old) (d.content new) (d.may_hold_now new) (put Redo 0 gate) Redo (IsInstalledBut K size (d.may_hold_now old)) (λ m. EndsBut K (m Image) (d.may_hold_now new))
    c.write_gate.ensures.written c.write_gate.ensures.durable installed
    (λ m s durable. closed_but K size (d.may_hold_now old) m s.quiet (d.may_hold_now new) gate c.gate_block.ensures.first
    (at_end d.clock d.may_have_held_since d.may_hold_now met.only_now met.counts_now old new (Reached AllButGate (d.may_hold_now old)) c.write_gate.ensures.moments) durable)
