use Rattle.std.proofs.Common.{◌≡◌, ◌∙◌}
use Rattle.blk_device.proofs.Moments.{at_end, sync_keeps, then_keeps}
use Rattle.blk_device.specs.Crash.{Reached}
use Rattle.blk_device.specs.declared.device.Region.TheVariants.{Image}
use Rattle.redo_area.specs.Area.{AllButHomes, after_crash, put_waiting}
use Rattle.redo_area.specs.Recover.{IsFound}
use Rattle.redo_area.specs.Stages.{IsInstalled}
use Rattle.redo_area.specs.Table.{table_numbers}
use Rattle.redo_area.proofs.AreaLaws.{recovered_law}
use Rattle.redo_area.proofs.Steps.{always, durable_now, ended, while_recovering}
use Rattle.redo_area.proofs.TableLemmas.{sound_table}
use Rattle.redo_area.proofs.ToldLemmas.{told_on, told_same}
use Rattle.redo_area.proofs.recovery.install_waiting.Goals as goal

pub write_waiting-requires-clause-few : goal.write_waiting-requires-clause-few
write_waiting-requires-clause-few g c = (sound_table (g.D.Device.blocks c.args.dev.now Image) c.args.table.now.bytes c.requires.sound).0

pub write_waiting-requires-clause-rise : goal.write_waiting-requires-clause-rise
write_waiting-requires-clause-rise g c = (sound_table (g.D.Device.blocks c.args.dev.now Image) c.args.table.now.bytes c.requires.sound).1

pub returns-in_err-write_waiting-clause-any_moment : goal.returns-in_err-write_waiting-clause-any_moment
returns-in_err-write_waiting-clause-any_moment g c =
    let d = g.D.Device in
    while_recovering d.clock d.may_have_held_since d.may_hold_now (d.blocks c.args.dev.now Image) c.args.dev.now c.write_waiting.new.dev (d.content c.args.dev.now) c.args.table.now.bytes c.requires.sound c.requires.found c.write_waiting.ensures.moments

pub returns-clause-any_moment : goal.returns-clause-any_moment
returns-clause-any_moment g c =
    let d = g.D.Device in
    let met = g.met.D.Device in
    let old = c.args.dev.now in
    let bytes = c.args.table.now.bytes in
    let K = AllButHomes (table_numbers bytes) in
    let run = then_keeps d.clock d.may_have_held_since d.may_hold_now met.only_now met.counts_now K old c.write_waiting.new.dev c.sync.new.self c.write_waiting.ensures.moments
    (sync_keeps d.clock d.may_have_held_since d.may_hold_now met.only_now met.counts_now K c.write_waiting.new.dev c.sync.new.self c.sync.ensures.crash c.sync.ensures.time) in
    while_recovering d.clock d.may_have_held_since d.may_hold_now (d.blocks old Image) old c.sync.new.self (d.content old) bytes c.requires.sound c.requires.found run

pub returns-clause-installed : goal.returns-clause-installed
returns-clause-installed g c =
    let d = g.D.Device in
    let met = g.met.D.Device in
    let old = c.args.dev.now in
    let new = c.sync.new.self in
    let size = d.blocks old Image in
    let bytes = c.args.table.now.bytes in
    let K = AllButHomes (table_numbers bytes) in
    let run = then_keeps d.clock d.may_have_held_since d.may_hold_now met.only_now met.counts_now K old c.write_waiting.new.dev new c.write_waiting.ensures.moments
    (sync_keeps d.clock d.may_have_held_since d.may_hold_now met.only_now met.counts_now K c.write_waiting.new.dev new c.sync.ensures.crash c.sync.ensures.time) in
    ended c.sync.result (d.content old) (d.content new) (d.may_hold_now new) (put_waiting (table_numbers bytes) 2) Image (IsFound bytes (d.may_hold_now old)) (λ m n. (n Image ≡ after_crash m) × IsInstalled size (d.may_hold_now new) n)
    (always c.sync.result (c.sync.ensures.same ∙ c.in_ok-write_waiting.ensures.written)) (durable_now c.sync.result Image (d.content c.write_waiting.new.dev) (d.content new) (d.may_hold_now new) c.sync.ensures.same c.sync.ensures.durable) c.requires.found
    (λ m s durable. recovered_law size (d.may_hold_now old) m s.quiet (d.may_hold_now new) bytes s.opened s.table c.requires.sound
    (at_end d.clock d.may_have_held_since d.may_hold_now met.only_now met.counts_now old new (Reached K (d.may_hold_now old)) run) durable)

pub returns-clause-written : goal.returns-clause-written
returns-clause-written g c = always c.sync.result (c.sync.ensures.same ∙ c.in_ok-write_waiting.ensures.written)

pub returns-clause-told : goal.returns-clause-told
returns-clause-told g c =
    let d = g.D.Device in
    told_on (d.content c.args.dev.now) (d.content c.write_waiting.new.dev) (d.content c.sync.new.self) c.write_waiting.ensures.told (told_same (d.content c.write_waiting.new.dev) (d.content c.sync.new.self) c.sync.ensures.same)
