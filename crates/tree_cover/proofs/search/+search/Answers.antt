use Rattle.std.proofs.Common.{rules, ◌≡◌, ◌-◌, ◌<◌, Some, arith, ◌∙◌}
use Rattle.std.proofs.lemmas.Result.{err_from_is_err_and}
use Rattle.sblock.specs.Blocks.{numrecs}
use Rattle.tree_defs.proofs.LoneFacts.{leaf_room, node_room}
use Rattle.tree_cover.specs.Found.{IsSpare}
use Rattle.tree_cover.proofs.SearchLemmas.{cover_refused, cover_met, cover_missed, cover_none, cover_one, leaf_sought, below_node, next_below, spare_below}
use Rattle.tree_cover.proofs.search.+search.Goals as goal

pub returns-in_err-block-clause-exact : goal.returns-in_err-block-clause-exact
returns-in_err-block-clause-exact g t c = λ m e.
    let p = err_from_is_err_and c.from_residual.result c.from_residual.ensures.1 in
    rw (p.1, p.2) (cover_refused g.K.RecKind.form c.args.site.now m c.args.asked.now.run c.args.asked.now.after c.args.level c.args.root c.args.p c.args.spare c.in_err-block.field-0.0 (c.in_err-block.ensures.refused m e))

pub first_met-requires-clause-room : goal.first_met-requires-clause-room
first_met-requires-clause-room g t c =
    let count : c.count_of-n.result ≡ numrecs c.in_ok-block.block.bytes = c.count_of-n.ensures in
    let room = leaf_room g.K.RecKind.form c.args.site.now c.args.level c.args.root c.args.p c.in_ok-block.block.bytes c.in_ok-block.ensures.passes c.if-level-eq0.true in
    omega (arith, count, room)

pub returns-in-Some-clause-exact : goal.returns-in-Some-clause-exact
returns-in-Some-clause-exact g t c = λ m e.
    cover_met g.K.RecKind.form c.args.site.now m c.args.asked.now.run c.args.asked.now.after c.args.level c.args.p c.count_of-n.result c.in_ok-block.block.bytes c.data_area-area.result.now (c.in_ok-block.ensures.told m e) c.count_of-n.ensures c.data_area-area.ensures.shows c.args.root c.args.spare c.in_ok-block.ensures.passes c.if-level-eq0.true c.in-Some.rec c.in-Some.ensures

pub returns-in-Some-clause-sought : goal.returns-in-Some-clause-sought
returns-in-Some-clause-sought g t c =
    let count : c.count_of-n.result ≡ numrecs c.in_ok-block.block.bytes = c.count_of-n.ensures in
    leaf_sought g.K.RecKind.form c.args.site.now c.args.asked.now.run c.args.asked.now.after c.args.level c.args.root c.args.p c.in_ok-block.block.bytes c.in_ok-block.ensures.passes c.if-level-eq0.true c.count_of-n.result c.data_area-area.result.now (Some c.in-Some.rec) count c.data_area-area.ensures.shows c.in-Some.ensures

pub returns-in-None-clause-exact : goal.returns-in-None-clause-exact
returns-in-None-clause-exact g t c = λ m e.
    cover_missed g.K.RecKind.form c.args.site.now m c.args.asked.now.run c.args.asked.now.after c.args.level c.args.p c.count_of-n.result c.in_ok-block.block.bytes c.data_area-area.result.now (c.in_ok-block.ensures.told m e) c.count_of-n.ensures c.data_area-area.ensures.shows c.args.root c.args.spare c.in_ok-block.ensures.passes c.if-level-eq0.true c.in-None.ensures c.resume.result (c.resume.ensures.exact m (c.open_block.ensures.reading.same ∙ e))

pub choose-requires-clause-room : goal.choose-requires-clause-room
choose-requires-clause-room g t c =
    let pos : 0 < c.args.level = omega (arith, c.if-level-eq0.false) in
    let count : c.count_of-n.result ≡ numrecs c.in_ok-block.block.bytes = c.count_of-n.ensures in
    let room = node_room g.K.RecKind.form c.args.site.now c.args.level c.args.root c.args.p c.in_ok-block.block.bytes c.in_ok-block.ensures.passes pos in
    omega (arith, count, room)

pub search-requires : goal.search-requires
search-requires g t c κs within =
    let pos : 0 < c.args.level = omega (arith, c.if-level-eq0.false) in
    let count : c.count_of-n.result ≡ numrecs c.in_ok-block.block.bytes = c.count_of-n.ensures in
    let len = c.args.site.now.bounds.length in
    let first : c.in-Some-choose.choice.first < len = below_node g.K.RecKind.form c.args.site.now c.args.level c.args.root c.args.p c.in_ok-block.block.bytes c.in_ok-block.ensures.passes pos c.count_of-n.result c.data_area-area.result.now c.in-Some-choose.choice.first count c.data_area-area.ensures.shows c.in-Some-choose.ensures.below in
    let next = next_below g.K.RecKind.form c.args.site.now c.args.level c.args.root c.args.p c.in_ok-block.block.bytes c.in_ok-block.ensures.passes pos c.count_of-n.result c.data_area-area.result.now c.in-Some-choose.choice.next count c.data_area-area.ensures.shows c.in-Some-choose.ensures.next in
    let spare : IsSpare len (c.args.level - 1) c.spare_of-behind.result = rw (c.spare_of-behind.ensures) (spare_below len c.args.level c.args.spare c.in-Some-choose.choice.next pos c.requires.spare next) in
    search rules

pub returns-in-None-choose-clause-exact : goal.returns-in-None-choose-clause-exact
returns-in-None-choose-clause-exact g t c = λ m e.
    cover_none g.K.RecKind.form c.args.site.now m c.args.asked.now.run c.args.asked.now.after c.args.level c.args.p c.count_of-n.result c.in_ok-block.block.bytes c.data_area-area.result.now (c.in_ok-block.ensures.told m e) c.count_of-n.ensures c.data_area-area.ensures.shows c.args.root c.args.spare c.in_ok-block.ensures.passes (omega (arith, c.if-level-eq0.false)) c.in-None-choose.ensures.exact c.resume-in-None-choose.result (c.resume-in-None-choose.ensures.exact m (c.open_block.ensures.reading.same ∙ e))

pub returns-in-Some-choose-clause-exact : goal.returns-in-Some-choose-clause-exact
returns-in-Some-choose-clause-exact g t c = λ m e.
    cover_one g.K.RecKind.form c.args.site.now m c.args.asked.now.run c.args.asked.now.after c.args.level c.args.p c.count_of-n.result c.in_ok-block.block.bytes c.data_area-area.result.now (c.in_ok-block.ensures.told m e) c.count_of-n.ensures c.data_area-area.ensures.shows c.args.root c.args.spare c.in_ok-block.ensures.passes (omega (arith, c.if-level-eq0.false)) c.in-Some-choose.choice c.in-Some-choose.ensures.exact c.spare_of-behind.result c.spare_of-behind.ensures c.search.result (c.search.ensures.exact m (c.open_block.ensures.reading.same ∙ e))
