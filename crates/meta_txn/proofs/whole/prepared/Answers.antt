use Rattle.std.proofs.Common.{arith}
use Rattle.std.proofs.lemmas.Result.{on_ok_weaker}
use Rattle.blk_device.specs.Contents.{put}
use Rattle.blk_device.specs.declared.device.Region.TheVariants.{Image, Redo}
use Rattle.blk_device.proofs.Told.{becomes_by}
use Rattle.redo_area.specs.Area.{staged}
use Rattle.redo_area.specs.Table.{places, table_bytes}
use Rattle.redo_area.proofs.AreaLaws.{copies_image}
use Rattle.meta_txn.specs.Whole.{SameImage}
use Rattle.meta_txn.proofs.WholeLemmas.{ok_as, by_device}
use Rattle.meta_txn.proofs.whole.prepared.Goals as goal

pub returns-clause-image : goal.returns-clause-image
returns-clause-image g c =
    let d = g.D.Device in
    let batch = c.args.batch.now in
    let size = d.blocks c.args.dev.now Image in
    ok_as c.prepare.result c.map_err.result _ c.map_err.ensures.variant
    (on_ok_weaker c.prepare.result
    (λ written. becomes_by (staged size batch) (d.content c.args.dev.now) (d.content c.prepare.new.dev) SameImage written
    (λ m told. copies_image batch 2 (put Redo 1 (table_bytes size (places batch)) m)))
    c.prepare.ensures.written)

pub returns-clause-ready : goal.returns-clause-ready
returns-clause-ready g c = λ before. ok_as c.prepare.result c.map_err.result _ c.map_err.ensures.variant (c.prepare.ensures.prepared before)

pub returns-clause-ready_but : goal.returns-clause-ready_but
returns-clause-ready_but g c = λ K before. ok_as c.prepare.result c.map_err.result _ c.map_err.ensures.variant (c.prepare.ensures.prepared_but K before)

pub returns-clause-cause : goal.returns-clause-cause
returns-clause-cause g c =
    let d = g.D.Device in
    let all = c.prepare.ensures in
    by_device c.prepare.result c.map_err.result (d.faults c.args.dev.now) (d.faults c.prepare.new.dev) c.map_err.ensures.variant
    (λ n is. omega (arith, c.requires.few, ((all.too_many n).0 is).1)) all.failed all.calm all.later
