use Rattle.std.proofs.Common.{rules, ◌≡◌, ◌<◌, false, arith, ◌∙◌}
use Rattle.std.proofs.lemmas.Result.{err_from_is_err_and}
use Rattle.sblock.specs.Blocks.{numrecs}
use Rattle.tree_defs.proofs.LoneFacts.{leaf_room, node_room}
use Rattle.tree_cover.proofs.SearchLemmas.{spare_refused, spare_met, spare_none, spare_one, leaf_sought, below_node}
use Rattle.tree_cover.proofs.search.+search_spare.Goals as goal

pub returns-in_err-block-clause-exact : goal.returns-in_err-block-clause-exact
returns-in_err-block-clause-exact g t c = λ m e.
    let p = err_from_is_err_and c.from_residual.result c.from_residual.ensures.1 in
    rw (p.1, p.2) (spare_refused g.K.RecKind.form c.args.site.now m c.args.asked.now.run c.args.asked.now.after c.args.level c.args.p c.in_err-block.field-0.0 (c.in_err-block.ensures.refused m e))

pub first_met-requires-clause-room : goal.first_met-requires-clause-room
first_met-requires-clause-room g t c =
    let count : c.count_of-n.result ≡ numrecs c.in_ok-block.block.bytes = c.count_of-n.ensures in
    let room = leaf_room g.K.RecKind.form c.args.site.now c.args.level false c.args.p c.in_ok-block.block.bytes c.in_ok-block.ensures.passes c.if-level-eq0.true in
    omega (arith, count, room)

pub returns-then-level-eq0-clause-exact : goal.returns-then-level-eq0-clause-exact
returns-then-level-eq0-clause-exact g t c = λ m e.
    spare_met g.K.RecKind.form c.args.site.now m c.args.asked.now.run c.args.asked.now.after c.args.level c.args.p c.count_of-n.result c.in_ok-block.block.bytes c.data_area-area.result.now (c.in_ok-block.ensures.told m e) c.count_of-n.ensures c.data_area-area.ensures.shows c.if-level-eq0.true c.in_ok-block.ensures.passes c.first_met.result c.first_met.ensures

pub returns-then-level-eq0-clause-sought : goal.returns-then-level-eq0-clause-sought
returns-then-level-eq0-clause-sought g t c =
    let count : c.count_of-n.result ≡ numrecs c.in_ok-block.block.bytes = c.count_of-n.ensures in
    leaf_sought g.K.RecKind.form c.args.site.now c.args.asked.now.run c.args.asked.now.after c.args.level false c.args.p c.in_ok-block.block.bytes c.in_ok-block.ensures.passes c.if-level-eq0.true c.count_of-n.result c.data_area-area.result.now c.first_met.result count c.data_area-area.ensures.shows c.first_met.ensures

pub first_child-requires-clause-room : goal.first_child-requires-clause-room
first_child-requires-clause-room g t c =
    let pos : 0 < c.args.level = omega (arith, c.if-level-eq0.false) in
    let count : c.count_of-n.result ≡ numrecs c.in_ok-block.block.bytes = c.count_of-n.ensures in
    let room = node_room g.K.RecKind.form c.args.site.now c.args.level false c.args.p c.in_ok-block.block.bytes c.in_ok-block.ensures.passes pos in
    omega (arith, count, room)

pub search_spare-requires : goal.search_spare-requires
search_spare-requires g t c κs within =
    let pos : 0 < c.args.level = omega (arith, c.if-level-eq0.false) in
    let count : c.count_of-n.result ≡ numrecs c.in_ok-block.block.bytes = c.count_of-n.ensures in
    let inside : c.in-Some.child < c.args.site.now.bounds.length = below_node g.K.RecKind.form c.args.site.now c.args.level false c.args.p c.in_ok-block.block.bytes c.in_ok-block.ensures.passes pos c.count_of-n.result c.data_area-area.result.now c.in-Some.child count c.data_area-area.ensures.shows c.in-Some.ensures.below in
    search rules

pub returns-in-None-clause-exact : goal.returns-in-None-clause-exact
returns-in-None-clause-exact g t c = λ m e.
    spare_none g.K.RecKind.form c.args.site.now m c.args.asked.now.run c.args.asked.now.after c.args.level c.args.p c.count_of-n.result c.in_ok-block.block.bytes c.data_area-area.result.now (c.in_ok-block.ensures.told m e) c.count_of-n.ensures c.data_area-area.ensures.shows (omega (arith, c.if-level-eq0.false)) c.in_ok-block.ensures.passes c.in-None.ensures.exact

pub returns-in-Some-clause-exact : goal.returns-in-Some-clause-exact
returns-in-Some-clause-exact g t c = λ m e.
    spare_one g.K.RecKind.form c.args.site.now m c.args.asked.now.run c.args.asked.now.after c.args.level c.args.p c.count_of-n.result c.in_ok-block.block.bytes c.data_area-area.result.now (c.in_ok-block.ensures.told m e) c.count_of-n.ensures c.data_area-area.ensures.shows (omega (arith, c.if-level-eq0.false)) c.in_ok-block.ensures.passes c.in-Some.child c.in-Some.ensures.exact c.search_spare.result (c.search_spare.ensures.exact m (c.open_block.ensures.reading.same ∙ e))
