use Rattle.std.proofs.Common.{◌∙◌, subst, refl}
use Rattle.std.specs.Prelude.{Option}
use Rattle.blk_device.specs.Contents.{Contents}
use Rattle.sblock.specs.declared.kind.Kind.TheVariants.{Rmap}
use Rattle.fs_change.specs.Records.{give_mapping}
use Rattle.core_edit.specs.Edited.{MakesOf}
use Rattle.blk_device.specs.Reading.{EachBlock}
use Rattle.blk_device.specs.ReadingLaws.{keeps_on}
use Rattle.geom.specs.Places.{device_block, layout}
use Rattle.core_edit.proofs.CloseLemmas.{crash_behind, no_change}
use Rattle.core_edit.proofs.GiveLemmas.{given_closed}
use Rattle.core_edit.proofs.owner.give_owner.Goals as goal

pub returns-clause-given : goal.returns-clause-given
returns-clause-given g c =
    let at = layout c.args.geo.now in
    let told = g.D.Device.content c.args.dev.now in
    let same = c.in_ok-open.ensures.reading.same in
    let made = subst (λ (t : Option Contents). MakesOf at t Rmap (give_mapping c.args.run.now) c.open.new.self c.rmap_add.new.self) same c.in_ok-rmap_add.ensures.edited in
    given_closed g.D.Device c.rmap_add.new.dev c.close.new.dev at told c.args.g c.args.heads.now c.args.run.now c.open.new.self c.rmap_add.new.self c.close.new.self (device_block c.args.geo.now c.rmap_add.new.self.group 0) c.close.result (c.in_ok-rmap_add.ensures.left.same ∙ same) c.in_ok-open.ensures.stands made c.close.ensures.stands refl c.close.ensures.closed

pub returns-clause-crash : goal.returns-clause-crash
returns-clause-crash g c =
    let met = g.met.D.Device in
    let reads = c.in_ok-open.ensures.reading in
    let left = c.in_ok-rmap_add.ensures.left in
    crash_behind g.D.Device met.only_now met.counts_now c.args.dev.now c.rmap_add.new.dev c.close.new.dev (device_block c.args.geo.now c.rmap_add.new.self.group 0) c.rmap_add.new.self c.close.new.self c.close.result (keeps_on g.D.Device met.only_now met.counts_now EachBlock c.args.dev.now c.open.new.dev c.rmap_add.new.dev reads.crash left.crash) (left.same ∙ reads.same) (left.sizes ∙ reads.sizes) c.close.ensures.closed

pub returns-in_err-open-clause-crash : goal.returns-in_err-open-clause-crash
returns-in_err-open-clause-crash g c =
    let met = g.met.D.Device in
    no_change g.D.Device met.only_now met.counts_now c.args.dev.now c.open.new.dev c.in_err-open.ensures.reading.crash

pub returns-in_err-rmap_add-clause-crash : goal.returns-in_err-rmap_add-clause-crash
returns-in_err-rmap_add-clause-crash g c =
    let met = g.met.D.Device in
    no_change g.D.Device met.only_now met.counts_now c.args.dev.now c.rmap_add.new.dev (keeps_on g.D.Device met.only_now met.counts_now EachBlock c.args.dev.now c.open.new.dev c.rmap_add.new.dev c.in_ok-open.ensures.reading.crash c.in_err-rmap_add.ensures.left.crash)
