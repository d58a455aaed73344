use Rattle.std.proofs.Common.{◌∙◌}
use Rattle.blk_device.proofs.Moments.{at_end, sync_keeps, then_keeps}
use Rattle.blk_device.specs.Crash.{Reached}
use Rattle.blk_device.specs.declared.device.Region.TheVariants.{Image}
use Rattle.redo_area.specs.Area.{AllButHomes, bytes_of, homes_of, put_homes}
use Rattle.redo_area.specs.Stages.{Installs, IsWaiting, IsWaitingBut}
use Rattle.redo_area.proofs.AreaLaws.{installed_but, installed_law}
use Rattle.redo_area.proofs.Steps.{always, durable_now, ended, while_homes, while_homes_but}
use Rattle.redo_area.proofs.ToldLemmas.{told_on, told_same}
use Rattle.redo_area.proofs.area.install.Goals as goal

pub returns-in_err-write_homes-clause-any_moment : goal.returns-in_err-write_homes-clause-any_moment
returns-in_err-write_homes-clause-any_moment g c =
    let d = g.D.Device in
    while_homes d.clock d.may_have_held_since d.may_hold_now (d.blocks c.args.dev.now Image) c.args.dev.now c.write_homes.new.dev (d.content c.args.dev.now) (bytes_of c.args.batch.now) c.write_homes.ensures.moments

pub returns-clause-any_moment : goal.returns-clause-any_moment
returns-clause-any_moment g c =
    let d = g.D.Device in
    let met = g.met.D.Device in
    let old = c.args.dev.now in
    let K = AllButHomes (homes_of (bytes_of c.args.batch.now)) in
    let run = then_keeps d.clock d.may_have_held_since d.may_hold_now met.only_now met.counts_now K old c.write_homes.new.dev c.sync.new.self c.write_homes.ensures.moments
    (sync_keeps d.clock d.may_have_held_since d.may_hold_now met.only_now met.counts_now K c.write_homes.new.dev c.sync.new.self c.sync.ensures.crash c.sync.ensures.time) in
    while_homes d.clock d.may_have_held_since d.may_hold_now (d.blocks old Image) old c.sync.new.self (d.content old) (bytes_of c.args.batch.now) run

pub returns-clause-installed : goal.returns-clause-installed
returns-clause-installed g c =
    let d = g.D.Device in
    let met = g.met.D.Device in
    let old = c.args.dev.now in
    let new = c.sync.new.self in
    let size = d.blocks old Image in
    let batch = bytes_of c.args.batch.now in
    let K = AllButHomes (homes_of batch) in
    let run = then_keeps d.clock d.may_have_held_since d.may_hold_now met.only_now met.counts_now K old c.write_homes.new.dev new c.write_homes.ensures.moments
    (sync_keeps d.clock d.may_have_held_since d.may_hold_now met.only_now met.counts_now K c.write_homes.new.dev new c.sync.ensures.crash c.sync.ensures.time) in
    λ waits. ended c.sync.result (d.content old) (d.content new) (d.may_hold_now new) (put_homes batch) Image (IsWaiting size batch (d.may_hold_now old)) (Installs size batch (d.may_hold_now new))
    (always c.sync.result (c.sync.ensures.same ∙ c.in_ok-write_homes.ensures.written)) (durable_now c.sync.result Image (d.content c.write_homes.new.dev) (d.content new) (d.may_hold_now new) c.sync.ensures.same c.sync.ensures.durable) waits
    (λ m s durable. installed_law size (d.may_hold_now old) m s.ready.quiet (d.may_hold_now new) batch s.ready.stands s.ready.sound
    (at_end d.clock d.may_have_held_since d.may_hold_now met.only_now met.counts_now old new (Reached K (d.may_hold_now old)) run) durable)

pub returns-in_err-write_homes-clause-any_moment_but : goal.returns-in_err-write_homes-clause-any_moment_but
returns-in_err-write_homes-clause-any_moment_but g c =
    let d = g.D.Device in
    λ K. while_homes_but d.clock d.may_have_held_since d.may_hold_now (d.blocks c.args.dev.now Image) c.args.dev.now c.write_homes.new.dev (d.content c.args.dev.now) K (bytes_of c.args.batch.now) c.write_homes.ensures.moments

pub returns-clause-any_moment_but : goal.returns-clause-any_moment_but
returns-clause-any_moment_but g c =
    let d = g.D.Device in
    let met = g.met.D.Device in
    let old = c.args.dev.now in
    let S = AllButHomes (homes_of (bytes_of c.args.batch.now)) in
    let run = then_keeps d.clock d.may_have_held_since d.may_hold_now met.only_now met.counts_now S old c.write_homes.new.dev c.sync.new.self c.write_homes.ensures.moments
    (sync_keeps d.clock d.may_have_held_since d.may_hold_now met.only_now met.counts_now S c.write_homes.new.dev c.sync.new.self c.sync.ensures.crash c.sync.ensures.time) in
    λ K. while_homes_but d.clock d.may_have_held_since d.may_hold_now (d.blocks old Image) old c.sync.new.self (d.content old) K (bytes_of c.args.batch.now) run

pub returns-clause-installed_but : goal.returns-clause-installed_but
returns-clause-installed_but g c =
    let d = g.D.Device in
    let met = g.met.D.Device in
    let old = c.args.dev.now in
    let new = c.sync.new.self in
    let size = d.blocks old Image in
    let batch = bytes_of c.args.batch.now in
    let S = AllButHomes (homes_of batch) in
    let run = then_keeps d.clock d.may_have_held_since d.may_hold_now met.only_now met.counts_now S old c.write_homes.new.dev new c.write_homes.ensures.moments
    (sync_keeps d.clock d.may_have_held_since d.may_hold_now met.only_now met.counts_now S c.write_homes.new.dev new c.sync.ensures.crash c.sync.ensures.time) in
    λ K waits. ended c.sync.result (d.content old) (d.content new) (d.may_hold_now new) (put_homes batch) Image (IsWaitingBut K size batch (d.may_hold_now old)) (Installs size batch (d.may_hold_now new))
    (always c.sync.result (c.sync.ensures.same ∙ c.in_ok-write_homes.ensures.written)) (durable_now c.sync.result Image (d.content c.write_homes.new.dev) (d.content new) (d.may_hold_now new) c.sync.ensures.same c.sync.ensures.durable) waits
    (λ m s durable. installed_but K size (d.may_hold_now old) m s.ready.quiet (d.may_hold_now new) batch s.ready.stands s.ready.sound
    (at_end d.clock d.may_have_held_since d.may_hold_now met.only_now met.counts_now old new (Reached S (d.may_hold_now old)) run) durable)

pub returns-clause-told : goal.returns-clause-told
returns-clause-told g c =
    let d = g.D.Device in
    told_on (d.content c.args.dev.now) (d.content c.write_homes.new.dev) (d.content c.sync.new.self) c.write_homes.ensures.told (told_same (d.content c.write_homes.new.dev) (d.content c.sync.new.self) c.sync.ensures.same)
