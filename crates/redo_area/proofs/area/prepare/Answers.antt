use Rattle.std.proofs.Common.{◌≤◌, ◌<◌, ℕ, length, Result, Ok, arith}
use Rattle.blk_device.specs.declared.device.Region.TheVariants.{Image, Redo}
use Rattle.redo_area.specs.Area.{bytes_of, staged}
use Rattle.redo_area.specs.Stages.{AtRest, AtRestBut, Prepares, PreparesBut}
use Rattle.redo_area.specs.Table.{places}
use Rattle.blk_device.proofs.Moments.{at_end}
use Rattle.blk_device.specs.Crash.{Reached}
use Rattle.redo_area.specs.Area.{BehindGate}
use Rattle.redo_area.proofs.AreaLaws.{staged_but, staged_law}
use Rattle.redo_area.proofs.Steps.{ended, while_behind, while_behind_but}
use Rattle.redo_area.proofs.TableLemmas.{length_places, numbers_read, table_sound}
use Rattle.redo_area.proofs.area.prepare.Goals as goal

pub returns-clause-any_moment : goal.returns-clause-any_moment
returns-clause-any_moment g c =
    let d = g.D.Device in
    while_behind d.clock d.may_have_held_since d.may_hold_now (d.blocks c.args.dev.now Image) c.args.dev.now c.stage.new.dev (d.content c.args.dev.now) c.stage.ensures.moments

pub returns-in_err-stage-clause-any_moment : goal.returns-in_err-stage-clause-any_moment
returns-in_err-stage-clause-any_moment g c =
    let d = g.D.Device in
    while_behind d.clock d.may_have_held_since d.may_hold_now (d.blocks c.args.dev.now Image) c.args.dev.now c.stage.new.dev (d.content c.args.dev.now) c.stage.ensures.moments

pub returns-clause-prepared : goal.returns-clause-prepared
returns-clause-prepared g c =
    let d = g.D.Device in
    let met = g.met.D.Device in
    let old = c.args.dev.now in
    let new = c.stage.new.dev in
    let batch = c.args.batch.now in
    let ns = places batch in
    let size = d.blocks old Image in
    let few : length ns ≤ 160 = omega (arith, length_places batch) in
    let some : 0 < length ns = omega (arith, length_places batch, c.requires.some) in
    let answer : Result (Unit {0}) ℕ = Ok tt in
    λ rest. ended answer (d.content old) (d.content new) (d.may_hold_now new) (staged size batch) Redo (AtRest (d.may_hold_now old)) (Prepares size (bytes_of batch) (d.may_hold_now new))
    c.in_ok-stage.ensures.written c.in_ok-stage.ensures.durable rest
    (λ m s durable. staged_law size (d.may_hold_now old) m s.quiet (d.may_hold_now new) batch s.shut (numbers_read ns size few c.requires.rise c.stage.ensures.bound) (table_sound ns size few c.requires.rise c.stage.ensures.bound some)
    (at_end d.clock d.may_have_held_since d.may_hold_now met.only_now met.counts_now old new (Reached BehindGate (d.may_hold_now old)) c.stage.ensures.moments) durable)

pub returns-clause-any_moment_but : goal.returns-clause-any_moment_but
returns-clause-any_moment_but g c =
    let d = g.D.Device in
    λ K. while_behind_but d.clock d.may_have_held_since d.may_hold_now (d.blocks c.args.dev.now Image) c.args.dev.now c.stage.new.dev (d.content c.args.dev.now) K c.stage.ensures.moments

pub returns-in_err-stage-clause-any_moment_but : goal.returns-in_err-stage-clause-any_moment_but
returns-in_err-stage-clause-any_moment_but g c =
    let d = g.D.Device in
    λ K. while_behind_but d.clock d.may_have_held_since d.may_hold_now (d.blocks c.args.dev.now Image) c.args.dev.now c.stage.new.dev (d.content c.args.dev.now) K c.stage.ensures.moments

pub returns-clause-prepared_but : goal.returns-clause-prepared_but
returns-clause-prepared_but g c =
    let d = g.D.Device in
    let met = g.met.D.Device in
    let old = c.args.dev.now in
    let new = c.stage.new.dev in
    let batch = c.args.batch.now in
    let ns = places batch in
    let size = d.blocks old Image in
    let few : length ns ≤ 160 = omega (arith, length_places batch) in
    let some : 0 < length ns = omega (arith, length_places batch, c.requires.some) in
    let answer : Result (Unit {0}) ℕ = Ok tt in
    λ K rest. ended answer (d.content old) (d.content new) (d.may_hold_now new) (staged size batch) Redo (AtRestBut K (d.may_hold_now old)) (PreparesBut K size (bytes_of batch) (d.may_hold_now new))
    c.in_ok-stage.ensures.written c.in_ok-stage.ensures.durable rest
    (λ m s durable. staged_but K size (d.may_hold_now old) m s.quiet (d.may_hold_now new) batch s.shut (numbers_read ns size few c.requires.rise c.stage.ensures.bound) (table_sound ns size few c.requires.rise c.stage.ensures.bound some)
    (at_end d.clock d.may_have_held_since d.may_hold_now met.only_now met.counts_now old new (Reached BehindGate (d.may_hold_now old)) c.stage.ensures.moments) durable)
