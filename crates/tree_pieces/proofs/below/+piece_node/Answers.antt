use Rattle.std.proofs.Common.{refl, false, rules, ◌<◌, ◌≤◌, ◌∙◌, arith}
use Rattle.std.proofs.lemmas.Result.{err_from_is_err_and}
use Rattle.sblock.specs.Blocks.{numrecs, records_of}
use Rattle.sblock.specs.Kinds.{node_most_of}
use Rattle.tree_defs.proofs.LoneFacts.{leaf_room, node_room, child_inside}
use Rattle.tree_find.specs.Next.{records_above}
use Rattle.tree_find.proofs.AboveLemmas.{sound_above}
use Rattle.tree_find.proofs.NextLemmas.{one_way, other_way}
use Rattle.tree_pieces.proofs.PieceLemmas.{is_met_by, piece_refused, piece_at_leaf, piece_found, piece_bad, piece_next, sound_piece}
use Rattle.tree_find.proofs.OpenLemmas.{leaf_rising, node_rising, low_level, node_some}
use Rattle.tree_pieces.proofs.below.+piece_node.Goals as goal

pub returns-in_err-block-clause-exact : goal.returns-in_err-block-clause-exact
returns-in_err-block-clause-exact g t c = λ m e.
    let p = err_from_is_err_and c.from_residual.result c.from_residual.ensures.1 in
    rw (p.1, p.2) (piece_refused g.K.RecKind.form c.args.site.now m c.args.after.now c.args.level c.args.root c.args.p c.args.met.now.items c.in_err-block.field-0.0 (c.in_err-block.ensures.refused m e))

pub leaf_records-requires-clause-room : goal.leaf_records-requires-clause-room
leaf_records-requires-clause-room g t c = leaf_room g.K.RecKind.form c.args.site.now c.args.level c.args.root c.args.p c.in_ok-block.block.bytes c.in_ok-block.ensures.passes c.if-level-eq0.true

pub leaf_records-requires-clause-rising : goal.leaf_records-requires-clause-rising
leaf_records-requires-clause-rising g t c = leaf_rising g.K.RecKind.form c.args.site.now c.args.level c.args.root c.args.p c.in_ok-block.block.bytes c.in_ok-block.ensures.passes c.if-level-eq0.true

pub returns-then-level-eq0-clause-exact : goal.returns-then-level-eq0-clause-exact
returns-then-level-eq0-clause-exact g t c = λ m e.
    piece_at_leaf g.K.RecKind.form c.args.site.now m c.args.after.now c.args.level c.args.root c.args.p c.args.met.now.items c.leaf_records.new.met.items c.in_ok-block.block.bytes c.leaf_records.result c.if-level-eq0.true (c.in_ok-block.ensures.told m e) c.in_ok-block.ensures.passes c.leaf_records.ensures.met c.leaf_records.ensures.none c.leaf_records.ensures.some c.leaf_records.ensures.memory

pub returns-then-level-eq0-clause-sound : goal.returns-then-level-eq0-clause-sound
returns-then-level-eq0-clause-sound g t c =
    sound_piece g.K.RecKind.form c.args.site.now.bounds c.args.after.now (records_above g.K.RecKind.form c.args.after.now (records_of g.K.RecKind.form c.in_ok-block.block.bytes)) c.leaf_records.result c.leaf_records.ensures.above
    (sound_above g.K.RecKind.form g.met.K.RecKind.lawful c.args.site.now c.args.level c.args.root c.args.p c.in_ok-block.block.bytes c.in_ok-block.ensures.passes c.if-level-eq0.true c.args.after.now (records_above g.K.RecKind.form c.args.after.now (records_of g.K.RecKind.form c.in_ok-block.block.bytes)) refl)

pub place_after-place-requires-clause-room : goal.place_after-place-requires-clause-room
place_after-place-requires-clause-room g t c =
    let room : numrecs c.in_ok-block.block.bytes ≤ node_most_of g.K.RecKind.form.kind = node_room g.K.RecKind.form c.args.site.now c.args.level c.args.root c.args.p c.in_ok-block.block.bytes c.in_ok-block.ensures.passes (omega (arith, c.if-level-eq0.false)) in
    omega (arith, room, c.count_of.ensures)

pub place_after-place-requires-clause-rising : goal.place_after-place-requires-clause-rising
place_after-place-requires-clause-rising g t c =
    rw (c.data_area.ensures.shows, c.count_of.ensures) (node_rising g.K.RecKind.form c.args.site.now c.args.level c.args.root c.args.p c.in_ok-block.block.bytes c.in_ok-block.ensures.passes (omega (arith, c.if-level-eq0.false)))

pub start_for-start-requires-clause-room : goal.start_for-start-requires-clause-room
start_for-start-requires-clause-room g t c = node_room g.K.RecKind.form c.args.site.now c.args.level c.args.root c.args.p c.in_ok-block.block.bytes c.in_ok-block.ensures.passes (omega (arith, c.if-level-eq0.false))

pub start_for-start-requires-clause-rising : goal.start_for-start-requires-clause-rising
start_for-start-requires-clause-rising g t c = node_rising g.K.RecKind.form c.args.site.now c.args.level c.args.root c.args.p c.in_ok-block.block.bytes c.in_ok-block.ensures.passes (omega (arith, c.if-level-eq0.false))

pub start_for-start-requires-clause-some : goal.start_for-start-requires-clause-some
start_for-start-requires-clause-some g t c = node_some g.K.RecKind.form c.args.site.now c.args.level c.args.root c.args.p c.in_ok-block.block.bytes c.in_ok-block.ensures.passes (omega (arith, c.if-level-eq0.false))

pub child_in-child-requires : goal.child_in-child-requires
child_in-child-requires g t c =
    let room : numrecs c.in_ok-block.block.bytes ≤ node_most_of g.K.RecKind.form.kind = node_room g.K.RecKind.form c.args.site.now c.args.level c.args.root c.args.p c.in_ok-block.block.bytes c.in_ok-block.ensures.passes (omega (arith, c.if-level-eq0.false)) in
    omega (arith, room, c.start_for-start.ensures.within)

pub piece_node-requires : goal.piece_node-requires
piece_node-requires g t c κs within =
    let inside : c.child_in-child.result < c.args.site.now.bounds.length = rw (c.child_in-child.ensures) (child_inside g.K.RecKind.form c.args.site.now c.args.level c.args.root c.args.p c.in_ok-block.block.bytes c.in_ok-block.ensures.passes (omega (arith, c.if-level-eq0.false)) c.start_for-start.result c.start_for-start.ensures.within) in
    search rules

pub returns-in_err-found-clause-exact : goal.returns-in_err-found-clause-exact
returns-in_err-found-clause-exact g t c = λ m e.
    let p = err_from_is_err_and c.from_residual-in_err-found.result c.from_residual-in_err-found.ensures.1 in
    rw (p.1, p.2) (piece_bad g.K.RecKind.form c.args.site.now m c.args.after.now c.args.level c.args.root c.args.p c.start_for-start.result c.child_in-child.result c.args.met.now.items c.meet_if.new.met.items c.in_ok-block.block.bytes (omega (arith, c.if-level-eq0.false)) (c.in_ok-block.ensures.told m e) c.in_ok-block.ensures.passes (is_met_by g.K.RecKind.form c.args.after.now false c.args.p c.place_after-place.result c.data_area.result.now c.count_of.result c.in_ok-block.block.bytes c.args.met.now.items c.meet_if.new.met.items c.place_after-place.ensures.place c.data_area.ensures.shows c.count_of.ensures c.in_ok-meet_if.ensures.done) c.start_for-start.ensures.start c.child_in-child.ensures c.in_err-found.field-0.0 (c.in_err-found.ensures.exact m (c.in_ok-block.ensures.reading.same ∙ e)))

pub returns-in_err-found-clause-few : goal.returns-in_err-found-clause-few
returns-in_err-found-clause-few g t c =
    one_way c.args.level (g.B.Blocks.count c.args.blocks.now) (g.B.Blocks.count c.open_block.new.blocks) (g.B.Blocks.count c.piece_node.new.blocks) (omega (arith, c.if-level-eq0.false)) (low_level g.K.RecKind.form c.args.site.now c.args.level c.args.root c.args.p c.in_ok-block.block.bytes c.in_ok-block.ensures.passes) c.in_ok-block.ensures.one c.piece_node.ensures.few

pub returns-in-Some-clause-exact : goal.returns-in-Some-clause-exact
returns-in-Some-clause-exact g t c = λ m e.
    piece_found g.K.RecKind.form c.args.site.now m c.args.after.now c.args.level c.args.root c.args.p c.start_for-start.result c.child_in-child.result c.args.met.now.items c.meet_if.new.met.items c.in_ok-block.block.bytes (omega (arith, c.if-level-eq0.false)) (c.in_ok-block.ensures.told m e) c.in_ok-block.ensures.passes (is_met_by g.K.RecKind.form c.args.after.now false c.args.p c.place_after-place.result c.data_area.result.now c.count_of.result c.in_ok-block.block.bytes c.args.met.now.items c.meet_if.new.met.items c.place_after-place.ensures.place c.data_area.ensures.shows c.count_of.ensures c.in_ok-meet_if.ensures.done) c.start_for-start.ensures.start c.child_in-child.ensures c.in_ok-found.found c.in-Some.recs c.piece_node.new.met.items (c.in_ok-found.ensures.exact m (c.in_ok-block.ensures.reading.same ∙ e)) c.in-Some.is

pub returns-in-Some-clause-few : goal.returns-in-Some-clause-few
returns-in-Some-clause-few g t c =
    one_way c.args.level (g.B.Blocks.count c.args.blocks.now) (g.B.Blocks.count c.open_block.new.blocks) (g.B.Blocks.count c.piece_node.new.blocks) (omega (arith, c.if-level-eq0.false)) (low_level g.K.RecKind.form c.args.site.now c.args.level c.args.root c.args.p c.in_ok-block.block.bytes c.in_ok-block.ensures.passes) c.in_ok-block.ensures.one c.piece_node.ensures.few

pub piece_behind-requires-clause-most : goal.piece_behind-requires-clause-most
piece_behind-requires-clause-most g t c = node_room g.K.RecKind.form c.args.site.now c.args.level c.args.root c.args.p c.in_ok-block.block.bytes c.in_ok-block.ensures.passes (omega (arith, c.if-level-eq0.false))

pub piece_behind-requires-clause-inside : goal.piece_behind-requires-clause-inside
piece_behind-requires-clause-inside g t c = λ k lt. child_inside g.K.RecKind.form c.args.site.now c.args.level c.args.root c.args.p c.in_ok-block.block.bytes c.in_ok-block.ensures.passes (omega (arith, c.if-level-eq0.false)) k lt

pub returns-in-None-clause-exact : goal.returns-in-None-clause-exact
returns-in-None-clause-exact g t c = λ m e.
    let told = c.in_ok-block.ensures.reading.same ∙ e in
    piece_next g.K.RecKind.form c.args.site.now m c.args.after.now c.args.level c.args.root c.args.p c.start_for-start.result c.child_in-child.result c.args.met.now.items c.meet_if.new.met.items c.in_ok-block.block.bytes (omega (arith, c.if-level-eq0.false)) (c.in_ok-block.ensures.told m e) c.in_ok-block.ensures.passes (is_met_by g.K.RecKind.form c.args.after.now false c.args.p c.place_after-place.result c.data_area.result.now c.count_of.result c.in_ok-block.block.bytes c.args.met.now.items c.meet_if.new.met.items c.place_after-place.ensures.place c.data_area.ensures.shows c.count_of.ensures c.in_ok-meet_if.ensures.done) c.start_for-start.ensures.start c.child_in-child.ensures c.in_ok-found.found c.piece_behind.result c.piece_node.new.met.items c.piece_behind.new.met.items (c.in_ok-found.ensures.exact m told) c.in-None.is (c.piece_behind.ensures.exact m (c.piece_node.ensures.reading.same ∙ told))

pub returns-in-None-clause-few : goal.returns-in-None-clause-few
returns-in-None-clause-few g t c =
    other_way c.args.level (g.B.Blocks.count c.args.blocks.now) (g.B.Blocks.count c.open_block.new.blocks) (g.B.Blocks.count c.piece_node.new.blocks) (g.B.Blocks.count c.piece_behind.new.blocks) c.in_ok-found.found (omega (arith, c.if-level-eq0.false)) (low_level g.K.RecKind.form c.args.site.now c.args.level c.args.root c.args.p c.in_ok-block.block.bytes c.in_ok-block.ensures.passes) c.in_ok-block.ensures.one c.in_ok-found.ensures.none c.in-None.is c.piece_behind.ensures.few
