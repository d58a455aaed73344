use Rattle.std.proofs.Common.{refl, rules, ◌<◌, ◌≤◌, ◌∙◌, arith}
use Rattle.std.proofs.lemmas.Result.{err_from_is_err_and}
use Rattle.sblock.specs.Blocks.{numrecs, records_of}
use Rattle.sblock.specs.Kinds.{node_most_of}
use Rattle.tree_defs.proofs.LoneFacts.{leaf_room, node_room, child_inside}
use Rattle.tree_find.specs.Next.{records_above}
use Rattle.tree_find.proofs.AboveLemmas.{sound_above}
use Rattle.tree_find.proofs.NextLemmas.{next_refused, next_at_leaf, next_found, next_bad, next_behind, sound_some, one_way, other_way}
use Rattle.tree_find.proofs.OpenLemmas.{leaf_rising, node_rising, low_level, node_some}
use Rattle.tree_find.proofs.next.+next_node.Goals as goal

pub returns-in_err-block-clause-exact : goal.returns-in_err-block-clause-exact
returns-in_err-block-clause-exact g t c = λ m e.
    let p = err_from_is_err_and c.from_residual.result c.from_residual.ensures.1 in
    rw (p.1, p.2) (next_refused g.K.RecKind.form c.args.site.now m c.args.after.now c.args.level c.args.root c.args.p c.in_err-block.field-0.0 (c.in_err-block.ensures.refused m e))

pub found_after-requires-clause-room : goal.found_after-requires-clause-room
found_after-requires-clause-room g t c = leaf_room g.K.RecKind.form c.args.site.now c.args.level c.args.root c.args.p c.in_ok-block.block.bytes c.in_ok-block.ensures.passes c.if-level-eq0.true

pub found_after-requires-clause-rising : goal.found_after-requires-clause-rising
found_after-requires-clause-rising g t c = leaf_rising g.K.RecKind.form c.args.site.now c.args.level c.args.root c.args.p c.in_ok-block.block.bytes c.in_ok-block.ensures.passes c.if-level-eq0.true

pub returns-then-level-eq0-clause-exact : goal.returns-then-level-eq0-clause-exact
returns-then-level-eq0-clause-exact g t c = λ m e.
    next_at_leaf g.K.RecKind.form c.args.site.now m c.args.after.now c.args.level c.args.root c.args.p c.in_ok-block.block.bytes c.found_after.result c.if-level-eq0.true (c.in_ok-block.ensures.told m e) c.in_ok-block.ensures.passes c.found_after.ensures.above

pub returns-then-level-eq0-clause-sound : goal.returns-then-level-eq0-clause-sound
returns-then-level-eq0-clause-sound g t c =
    let above = records_above g.K.RecKind.form c.args.after.now (records_of g.K.RecKind.form c.in_ok-block.block.bytes) in
    sound_some g.K.RecKind.form c.args.site.now.bounds c.args.after.now above c.found_after.result c.found_after.ensures.above
    (sound_above g.K.RecKind.form g.met.K.RecKind.lawful c.args.site.now c.args.level c.args.root c.args.p c.in_ok-block.block.bytes c.in_ok-block.ensures.passes c.if-level-eq0.true c.args.after.now above refl)

pub start_for-start-requires-clause-room : goal.start_for-start-requires-clause-room
start_for-start-requires-clause-room g t c = node_room g.K.RecKind.form c.args.site.now c.args.level c.args.root c.args.p c.in_ok-block.block.bytes c.in_ok-block.ensures.passes (omega (arith, c.if-level-eq0.false))

pub start_for-start-requires-clause-rising : goal.start_for-start-requires-clause-rising
start_for-start-requires-clause-rising g t c = node_rising g.K.RecKind.form c.args.site.now c.args.level c.args.root c.args.p c.in_ok-block.block.bytes c.in_ok-block.ensures.passes (omega (arith, c.if-level-eq0.false))

pub start_for-start-requires-clause-some : goal.start_for-start-requires-clause-some
start_for-start-requires-clause-some g t c = node_some g.K.RecKind.form c.args.site.now c.args.level c.args.root c.args.p c.in_ok-block.block.bytes c.in_ok-block.ensures.passes (omega (arith, c.if-level-eq0.false))

pub child_in-child-requires : goal.child_in-child-requires
child_in-child-requires g t c =
    let room : numrecs c.in_ok-block.block.bytes ≤ node_most_of g.K.RecKind.form.kind = node_room g.K.RecKind.form c.args.site.now c.args.level c.args.root c.args.p c.in_ok-block.block.bytes c.in_ok-block.ensures.passes (omega (arith, c.if-level-eq0.false)) in
    omega (arith, room, c.start_for-start.ensures.within)

pub next_node-requires : goal.next_node-requires
next_node-requires g t c κs within =
    let inside : c.child_in-child.result < c.args.site.now.bounds.length = rw (c.child_in-child.ensures) (child_inside g.K.RecKind.form c.args.site.now c.args.level c.args.root c.args.p c.in_ok-block.block.bytes c.in_ok-block.ensures.passes (omega (arith, c.if-level-eq0.false)) c.start_for-start.result c.start_for-start.ensures.within) in
    search rules

pub returns-in_err-found-clause-exact : goal.returns-in_err-found-clause-exact
returns-in_err-found-clause-exact g t c = λ m e.
    let p = err_from_is_err_and c.from_residual-in_err-found.result c.from_residual-in_err-found.ensures.1 in
    rw (p.1, p.2) (next_bad g.K.RecKind.form c.args.site.now m c.args.after.now c.args.level c.args.root c.args.p c.start_for-start.result c.child_in-child.result c.in_ok-block.block.bytes (omega (arith, c.if-level-eq0.false)) (c.in_ok-block.ensures.told m e) c.in_ok-block.ensures.passes c.start_for-start.ensures.start c.child_in-child.ensures c.in_err-found.field-0.0 (c.in_err-found.ensures.exact m (c.in_ok-block.ensures.reading.same ∙ e)))

pub returns-in_err-found-clause-few : goal.returns-in_err-found-clause-few
returns-in_err-found-clause-few g t c =
    one_way c.args.level (g.B.Blocks.count c.args.blocks.now) (g.B.Blocks.count c.open_block.new.blocks) (g.B.Blocks.count c.next_node.new.blocks) (omega (arith, c.if-level-eq0.false)) (low_level g.K.RecKind.form c.args.site.now c.args.level c.args.root c.args.p c.in_ok-block.block.bytes c.in_ok-block.ensures.passes) c.in_ok-block.ensures.one c.next_node.ensures.few

pub returns-in-Some-clause-exact : goal.returns-in-Some-clause-exact
returns-in-Some-clause-exact g t c = λ m e.
    next_found g.K.RecKind.form c.args.site.now m c.args.after.now c.args.level c.args.root c.args.p c.start_for-start.result c.child_in-child.result c.in_ok-block.block.bytes (omega (arith, c.if-level-eq0.false)) (c.in_ok-block.ensures.told m e) c.in_ok-block.ensures.passes c.start_for-start.ensures.start c.child_in-child.ensures c.in_ok-found.found c.in-Some.recs (c.in_ok-found.ensures.exact m (c.in_ok-block.ensures.reading.same ∙ e)) c.in-Some.is

pub returns-in-Some-clause-few : goal.returns-in-Some-clause-few
returns-in-Some-clause-few g t c =
    one_way c.args.level (g.B.Blocks.count c.args.blocks.now) (g.B.Blocks.count c.open_block.new.blocks) (g.B.Blocks.count c.next_node.new.blocks) (omega (arith, c.if-level-eq0.false)) (low_level g.K.RecKind.form c.args.site.now c.args.level c.args.root c.args.p c.in_ok-block.block.bytes c.in_ok-block.ensures.passes) c.in_ok-block.ensures.one c.next_node.ensures.few

pub behind-requires-clause-most : goal.behind-requires-clause-most
behind-requires-clause-most g t c = node_room g.K.RecKind.form c.args.site.now c.args.level c.args.root c.args.p c.in_ok-block.block.bytes c.in_ok-block.ensures.passes (omega (arith, c.if-level-eq0.false))

pub behind-requires-clause-inside : goal.behind-requires-clause-inside
behind-requires-clause-inside g t c = λ k lt. child_inside g.K.RecKind.form c.args.site.now c.args.level c.args.root c.args.p c.in_ok-block.block.bytes c.in_ok-block.ensures.passes (omega (arith, c.if-level-eq0.false)) k lt

pub returns-in-None-clause-exact : goal.returns-in-None-clause-exact
returns-in-None-clause-exact g t c = λ m e.
    let told = c.in_ok-block.ensures.reading.same ∙ e in
    next_behind g.K.RecKind.form c.args.site.now m c.args.after.now c.args.level c.args.root c.args.p c.start_for-start.result c.child_in-child.result c.in_ok-block.block.bytes (omega (arith, c.if-level-eq0.false)) (c.in_ok-block.ensures.told m e) c.in_ok-block.ensures.passes c.start_for-start.ensures.start c.child_in-child.ensures c.in_ok-found.found c.behind.result (c.in_ok-found.ensures.exact m told) c.in-None.is (c.behind.ensures.exact m (c.next_node.ensures.reading.same ∙ told))

pub returns-in-None-clause-few : goal.returns-in-None-clause-few
returns-in-None-clause-few g t c =
    other_way c.args.level (g.B.Blocks.count c.args.blocks.now) (g.B.Blocks.count c.open_block.new.blocks) (g.B.Blocks.count c.next_node.new.blocks) (g.B.Blocks.count c.behind.new.blocks) c.in_ok-found.found (omega (arith, c.if-level-eq0.false)) (low_level g.K.RecKind.form c.args.site.now c.args.level c.args.root c.args.p c.in_ok-block.block.bytes c.in_ok-block.ensures.passes) c.in_ok-block.ensures.one c.in_ok-found.ensures.none c.in-None.is c.behind.ensures.few
