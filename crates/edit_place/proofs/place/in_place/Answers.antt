use Rattle.std.proofs.Common.{◌≤◌, ◌+◌, ◌^◌, ℕ, sym, ap, subst, arith}
use Rattle.ag_headers.specs.Ring.{entries}
use Rattle.blk_device.specs.ReadingLaws.{read_on}
use Rattle.blk_device.specs.declared.device.Region.{Region}
use Rattle.blk_device.specs.declared.device.Region.TheVariants.{Image}
use Rattle.join_blocks.specs.Joins.{placed_in}
use Rattle.tree_edit.specs.Prepared.{held}
use Rattle.tree_edit.proofs.BlockLemmas.{lie_of_inside}
use Rattle.edit_place.proofs.AlongLemmas.{reads_through}
use Rattle.edit_place.proofs.PlaceLemmas.{place_is_below, place_is_changed, place_is_settled, placed_in_same}
use Rattle.edit_place.proofs.place.in_place.Goals as goal

pub put-requires-clause-inside : goal.put-requires-clause-inside
put-requires-clause-inside g c =
    let site = c.args.ask.now.site in
    let d = g.D.Device in
    let size = d.blocks c.drafted.new.dev Image in
    let room : site.first + site.bounds.length ≤ size = subst (λ (n : ℕ). site.first + site.bounds.length ≤ n) (sym (ap (λ (f : Region → ℕ). f Image) c.drafted.ensures.reading.sizes)) c.requires.room in
    lie_of_inside size site.first site.bounds.length (placed_in c.in-Ok.draft.placed.items) room c.in-Ok.ensures.within.inside

pub put-requires-clause-fits : goal.put-requires-clause-fits
put-requires-clause-fits g c =
    let site = c.args.ask.now.site in
    let room : site.first + site.bounds.length ≤ 2 ^ 64 = omega (arith, c.requires.fits) in
    lie_of_inside (2 ^ 64) site.first site.bounds.length (placed_in c.in-Ok.draft.placed.items) room c.in-Ok.ensures.within.inside

pub returns-in_err-put-clause-reading : goal.returns-in_err-put-clause-reading
returns-in_err-put-clause-reading g c =
    let met = g.met.D.Device in
    read_on g.D.Device met.only_now met.counts_now c.args.dev.now c.drafted.new.dev c.put.new.dev c.args.steps.now c.drafted.new.steps c.put.new.steps c.drafted.ensures.reading c.put.ensures.reading

pub returns-clause-reading : goal.returns-clause-reading
returns-clause-reading g c =
    let met = g.met.D.Device in
    read_on g.D.Device met.only_now met.counts_now c.args.dev.now c.drafted.new.dev c.put.new.dev c.args.steps.now c.drafted.new.steps c.put.new.steps c.drafted.ensures.reading c.put.ensures.reading

pub returns-clause-edited : goal.returns-clause-edited
returns-clause-edited g c = λ is given.
    let a = c.args in
    let new = c.put.new in
    let list = a.list.now in
    let about = g.D.Device.content a.dev.now in
    let form = g.K.RecKind.form in
    place_is_changed form a.ask.now a.tree.now a.txn.now (entries list) a.limbo.now.items about c.in-Ok.draft
    (c.in-Ok.ensures.checked (λ known. reads_through form a.ask.now a.tree.now a.txn.now list a.limbo.now.items about (given known))) (held new.tree new.txn new.list new.limbo.items)
    (placed_in_same a.ask.now.site.first c.in-Ok.draft a.tree.now a.txn.now c.drafted.new.txn list a.limbo.now.items c.make_room.new.limbo.items (held new.tree new.txn new.list new.limbo.items) c.drafted.ensures.txn c.make_room.ensures.same c.in_ok-put.ensures.placed)

pub returns-clause-settled : goal.returns-clause-settled
returns-clause-settled g c = λ is.
    let a = c.args in
    let new = c.put.new in
    let list = a.list.now in
    place_is_settled a.ask.now.site c.in-Ok.draft (held a.tree.now a.txn.now list a.limbo.now.items) (held new.tree new.txn new.list new.limbo.items)
    (placed_in_same a.ask.now.site.first c.in-Ok.draft a.tree.now a.txn.now c.drafted.new.txn list a.limbo.now.items c.make_room.new.limbo.items (held new.tree new.txn new.list new.limbo.items) c.drafted.ensures.txn c.make_room.ensures.same c.in_ok-put.ensures.placed)

pub returns-clause-below : goal.returns-clause-below
returns-clause-below g c = λ is below.
    let a = c.args in
    let new = c.put.new in
    let list = a.list.now in
    place_is_below a.ask.now.site c.in-Ok.draft (held a.tree.now a.txn.now list a.limbo.now.items) (held new.tree new.txn new.list new.limbo.items)
    (placed_in_same a.ask.now.site.first c.in-Ok.draft a.tree.now a.txn.now c.drafted.new.txn list a.limbo.now.items c.make_room.new.limbo.items (held new.tree new.txn new.list new.limbo.items) c.drafted.ensures.txn c.make_room.ensures.same c.in_ok-put.ensures.placed)
    c.in-Ok.ensures.within.inside (g.D.Device.blocks a.dev.now Image) c.requires.room below
