use Rattle.std.proofs.Common.{◌≡◌, ◌≤◌, ◌+◌, ◌^◌, ◌++◌, ◌∙◌, ℕ, List, length, drop, refl, sym, ap, subst, inr, arith}
use Rattle.std.specs.Prelude.{IfErr, OnErr}
use Rattle.blk_device.specs.declared.device.Region.{Region}
use Rattle.blk_device.specs.declared.device.Region.TheVariants.{Image}
use Rattle.ag_headers.specs.Ring.{entries}
use Rattle.edit_blocks.specs.Choice.{for_list, for_limbo}
use Rattle.join_blocks.proofs.CountLemmas.{with_err}
use Rattle.join_blocks.specs.Joins.{count_of, placed_in, with_all, LieBelow, OnlyThese}
use Rattle.meta_txn.specs.Joined.{Joined}
use Rattle.tree_edit.specs.Calls.{Stopped, StopsAt}
use Rattle.tree_edit.specs.declared.fault.EditFault.TheVariants.{Memory}
use Rattle.tree_edit.proofs.EditLemmas.{touched_are, touched_lie, same_touched, same_joined, is_edited, is_counted, stops_within, left_on, put_below, found_below}
use Rattle.tree_edit.proofs.BlockLemmas.{lie_first, lie_rest}
use Rattle.tree_edit.proofs.StopLemmas.{room_counts, join_counts}
use Rattle.tree_edit.proofs.rewrite.rewrite.Goals as goal

pub join_tree-requires-clause-touched : goal.join_tree-requires-clause-touched
join_tree-requires-clause-touched g c =
    let p = c.in_ok-made.ensures.prepared in
    let made = c.in_ok-made.made in
    same_touched made.placed.items c.deref-2.result.now made.left.items c.deref-3.result.now made.touched.items c.deref-4.result.now c.deref-2.ensures.value c.deref-3.ensures.value c.deref-4.ensures.value
    (touched_are g.K.RecKind.form c.args.site.now c.args.tree.now.lsn p.records p.before (entries c.args.list.now) made p.ready)

pub join_tree-requires-clause-inside : goal.join_tree-requires-clause-inside
join_tree-requires-clause-inside g c =
    let d = g.D.Device in
    let site = c.args.site.now in
    let p = c.in_ok-made.ensures.prepared in
    let size = d.blocks c.prepare.new.dev Image in
    let room : site.first + site.bounds.length ≤ size = subst (λ (n : ℕ). site.first + site.bounds.length ≤ n) (sym (ap (λ (f : Region → ℕ). f Image) c.prepare.ensures.left.sizes)) c.requires.room in
    subst (LieBelow size site.first) (sym c.deref-4.ensures.value) (touched_lie g.K.RecKind.form site c.args.tree.now.lsn p.records p.before (entries c.args.list.now) c.in_ok-made.made p.ready size room p.lie)

pub join_tree-requires-clause-fits : goal.join_tree-requires-clause-fits
join_tree-requires-clause-fits g c =
    let site = c.args.site.now in
    let p = c.in_ok-made.ensures.prepared in
    let room : site.first + site.bounds.length ≤ 2 ^ 64 = omega (arith, c.requires.fits) in
    subst (LieBelow (2 ^ 64) site.first) (sym c.deref-4.ensures.value) (touched_lie g.K.RecKind.form site c.args.tree.now.lsn p.records p.before (entries c.args.list.now) c.in_ok-made.made p.ready (2 ^ 64) room p.lie)

pub returns-in_err-join_tree-clause-left : goal.returns-in_err-join_tree-clause-left
returns-in_err-join_tree-clause-left g c = left_on g.D.Device g.met.D.Device.only_now g.met.D.Device.counts_now c.args.dev.now c.prepare.new.dev c.join_tree.new.dev c.args.steps.now c.prepare.new.steps c.join_tree.new.steps c.prepare.ensures.left c.join_tree.ensures.reading

pub returns-clause-left : goal.returns-clause-left
returns-clause-left g c = left_on g.D.Device g.met.D.Device.only_now g.met.D.Device.counts_now c.args.dev.now c.prepare.new.dev c.join_tree.new.dev c.args.steps.now c.prepare.new.steps c.join_tree.new.steps c.prepare.ensures.left c.join_tree.ensures.reading

pub returns-clause-edit : goal.returns-clause-edit
returns-clause-edit g c =
    let d = g.D.Device in
    let form = g.K.RecKind.form in
    let site = c.args.site.now in
    let tree = c.args.tree.now in
    let old = c.args.txn.now in
    let made = c.in_ok-made.made in
    let listed = entries c.args.list.now in
    let limbo = c.args.limbo.now.items in
    let rest = drop made.need listed in
    let same = c.prepare.ensures.txn in
    let joined = same_joined (d.content c.args.dev.now) (d.content c.prepare.new.dev) site.first made.placed.items c.deref-2.result.now made.left.items c.deref-3.result.now old.blocks c.prepare.new.txn.blocks c.join_tree.new.txn.blocks c.prepare.ensures.left.same c.deref-2.ensures.value c.deref-3.ensures.value (ap (λ (t : Joined). t.blocks) same) c.in_ok-join_tree.ensures.joined in
    let room = subst (λ (bs : List ℕ). count_of old.blocks site.first bs ≤ 160) c.deref-4.ensures.value (subst (λ (t : Joined). count_of t.blocks site.first c.deref-4.result.now ≤ 160) same c.in_ok-join_tree.ensures.room) in
    let many = c.in_ok-join_tree.ensures.count ∙ ap (λ (t : Joined). count_of t.blocks site.first c.deref-4.result.now) same ∙ ap (count_of old.blocks site.first) c.deref-4.ensures.value in
    is_edited form g.met.K.RecKind.lawful site c.args.how c.args.rec.now tree.lsn tree.root tree.levels (d.content c.args.dev.now) old listed limbo made c.args.steps.now c.prepare.new.steps c.in_ok-made.ensures.prepared c.requires.short c.join_tree.new.txn (entries c.settle.new.list) c.settle.new.limbo.items joined room many
    (c.join_tree.ensures.marked ∙ ap (λ (t : Joined). t.marked) same)
    (c.settle.ensures.list ∙ ap (λ (bs : List ℕ). rest ++ for_list rest bs) c.deref-5.ensures.value)
    (c.settle.ensures.limbo ∙ ap (λ (xs : List ℕ). xs ++ for_limbo rest c.deref-5.result.now) c.make_room.ensures.same ∙ ap (λ (bs : List ℕ). limbo ++ for_limbo rest bs) c.deref-5.ensures.value)

pub returns-clause-counted : goal.returns-clause-counted
returns-clause-counted g c =
    let tree = c.args.tree.now in
    let old = c.args.txn.now in
    let ticks = subst (λ (t : Joined). c.join_tree.new.steps.reads + length t.blocks ≡ c.prepare.new.steps.reads + length c.join_tree.new.txn.blocks) c.prepare.ensures.txn c.in_ok-join_tree.ensures.ticks in
    is_counted g.K.RecKind.form g.met.K.RecKind.lawful c.args.site.now c.args.how c.args.rec.now tree.lsn tree.root tree.levels (g.D.Device.content c.args.dev.now) old (entries c.args.list.now) c.args.limbo.now.items c.in_ok-made.made c.args.steps.now c.prepare.new.steps c.in_ok-made.ensures.prepared
    c.join_tree.new.txn c.join_tree.new.steps ticks c.join_tree.ensures.reading.writes c.join_tree.ensures.reading.moves _ refl

pub returns-in_err-join_tree-clause-stops : goal.returns-in_err-join_tree-clause-stops
returns-in_err-join_tree-clause-stops g c =
    let tree = c.args.tree.now in
    let old = c.args.txn.now in
    let site = c.args.site.now in
    let only = subst (λ (bs : List ℕ). OnlyThese site.first bs old.blocks c.join_tree.new.txn.blocks) c.deref-4.ensures.value (subst (λ (t : Joined). OnlyThese site.first c.deref-4.result.now t.blocks c.join_tree.new.txn.blocks) c.prepare.ensures.txn c.join_tree.ensures.others) in
    with_err {T = Unit {0}} (λ r. OnErr r (StopsAt g.K.RecKind.form site (g.D.Device.content c.args.dev.now) tree old c.args.list.now c.join_tree.new.txn)) c.in_err-join_tree.field-0.0 c.from_residual-in_err-join_tree.result c.from_residual-in_err-join_tree.ensures
    (inr (stops_within g.K.RecKind.form g.met.K.RecKind.lawful site c.args.how c.args.rec.now tree.lsn tree.root tree.levels (g.D.Device.content c.args.dev.now) old (entries c.args.list.now) c.args.limbo.now.items c.in_ok-made.made c.args.steps.now c.prepare.new.steps c.in_ok-made.ensures.prepared
    c.join_tree.new.txn only (c.join_tree.ensures.marked ∙ ap (λ (t : Joined). t.marked) c.prepare.ensures.txn)))

pub returns-clause-below : goal.returns-clause-below
returns-clause-below g c = λ below.
    let d = g.D.Device in
    let form = g.K.RecKind.form in
    let site = c.args.site.now in
    let old = c.args.txn.now in
    let made = c.in_ok-made.made in
    let p = c.in_ok-made.ensures.prepared in
    let listed = entries c.args.list.now in
    let size = d.blocks c.args.dev.now Image in
    let lie = subst (LieBelow size site.first) (touched_are form site c.args.tree.now.lsn p.records p.before listed made p.ready) (touched_lie form site c.args.tree.now.lsn p.records p.before listed made p.ready size c.requires.room p.lie) in
    let put = put_below size site.first made.placed.items old.blocks below (lie_first size site.first (placed_in made.placed.items) made.left.items lie) in
    let joined = same_joined (d.content c.args.dev.now) (d.content c.prepare.new.dev) site.first made.placed.items c.deref-2.result.now made.left.items c.deref-3.result.now old.blocks c.prepare.new.txn.blocks c.join_tree.new.txn.blocks c.prepare.ensures.left.same c.deref-2.ensures.value c.deref-3.ensures.value (ap (λ (t : Joined). t.blocks) c.prepare.ensures.txn) c.in_ok-join_tree.ensures.joined in
    found_below size (d.content c.args.dev.now) site.first made.left.items (with_all site.first made.placed.items old.blocks) c.join_tree.new.txn.blocks put (lie_rest size site.first (placed_in made.placed.items) made.left.items lie) joined

pub returns-in_err-make_room-clause-ticks : goal.returns-in_err-make_room-clause-ticks
returns-in_err-make_room-clause-ticks g c =
    let form = g.K.RecKind.form in
    let told = g.D.Device.content c.args.dev.now in
    let tree = c.args.tree.now in
    with_err {T = Unit {0}} (λ r. IfErr r (Stopped form c.args.site.now c.args.how c.args.rec.now told tree c.args.txn.now c.args.steps.now c.prepare.new.steps)) Memory c.from_residual-in_err-make_room.result c.from_residual-in_err-make_room.ensures
    (room_counts form g.met.K.RecKind.lawful c.args.site.now c.args.how c.args.rec.now told tree.root tree.levels c.args.txn.now (entries c.args.list.now) c.args.steps.now
    tree.lsn c.in_ok-made.made c.prepare.new.steps c.in_ok-made.ensures.prepared)

pub returns-in_err-join_tree-clause-ticks : goal.returns-in_err-join_tree-clause-ticks
returns-in_err-join_tree-clause-ticks g c =
    let form = g.K.RecKind.form in
    let told = g.D.Device.content c.args.dev.now in
    let tree = c.args.tree.now in
    let fault = c.in_err-join_tree.field-0.0 in
    with_err {T = Unit {0}} (λ r. IfErr r (Stopped form c.args.site.now c.args.how c.args.rec.now told tree c.args.txn.now c.args.steps.now c.join_tree.new.steps)) fault c.from_residual-in_err-join_tree.result c.from_residual-in_err-join_tree.ensures
    (join_counts form g.met.K.RecKind.lawful c.args.site.now c.args.how c.args.rec.now told tree.root tree.levels c.args.txn.now (entries c.args.list.now) c.args.steps.now
    tree.lsn c.in_ok-made.made c.prepare.new.steps c.in_ok-made.ensures.prepared c.join_tree.new.steps c.join_tree.ensures.reading.writes (count_of c.prepare.new.txn.blocks c.args.site.now.first c.deref-4.result.now)
    c.deref-4.result.now c.deref-4.ensures.value fault c.in_err-join_tree.ensures.refused c.in_err-join_tree.ensures.stops)
