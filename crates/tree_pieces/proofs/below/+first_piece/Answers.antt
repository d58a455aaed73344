use Rattle.std.proofs.Common.{rules, false, ◌<◌, ◌∙◌, arith}
use Rattle.std.proofs.lemmas.Result.{err_from_is_err_and}
use Rattle.sblock.specs.Blocks.{records_of}
use Rattle.tree_defs.proofs.LoneFacts.{leaf_room, child_inside}
use Rattle.tree_find.specs.Next.{records_above, AreAbove}
use Rattle.tree_find.proofs.AboveLemmas.{sound_above}
use Rattle.tree_find.proofs.NextLemmas.{on_records}
use Rattle.tree_pieces.proofs.PieceLemmas.{first_refused, first_at_leaf, first_by_child}
use Rattle.tree_find.proofs.OpenLemmas.{leaf_rising, node_some}
use Rattle.tree_pieces.proofs.below.+first_piece.Goals as goal

pub returns-in_err-block-clause-exact : goal.returns-in_err-block-clause-exact
returns-in_err-block-clause-exact g t c = λ m e.
    let p = err_from_is_err_and c.from_residual.result c.from_residual.ensures.1 in
    rw (p.1, p.2) (first_refused g.K.RecKind.form c.args.site.now m c.args.after.now c.args.level c.args.p c.args.met.now.items c.in_err-block.field-0.0 (c.in_err-block.ensures.refused m e))

pub records_after-requires-clause-room : goal.records_after-requires-clause-room
records_after-requires-clause-room g t c = leaf_room g.K.RecKind.form c.args.site.now c.args.level false c.args.p c.in_ok-block.block.bytes c.in_ok-block.ensures.passes c.if-level-eq0.true

pub records_after-requires-clause-rising : goal.records_after-requires-clause-rising
records_after-requires-clause-rising g t c = leaf_rising g.K.RecKind.form c.args.site.now c.args.level false c.args.p c.in_ok-block.block.bytes c.in_ok-block.ensures.passes c.if-level-eq0.true

pub returns-then-level-eq0-clause-exact : goal.returns-then-level-eq0-clause-exact
returns-then-level-eq0-clause-exact g t c = λ m e.
    first_at_leaf g.K.RecKind.form c.args.site.now m c.args.after.now c.args.level c.args.p c.args.met.now.items c.meet.new.met.items c.in_ok-block.block.bytes c.records_after.result c.if-level-eq0.true (c.in_ok-block.ensures.told m e) c.in_ok-block.ensures.passes c.in_ok-meet.ensures.done c.records_after.ensures.above c.records_after.ensures.memory

pub returns-then-level-eq0-clause-sound : goal.returns-then-level-eq0-clause-sound
returns-then-level-eq0-clause-sound g t c =
    on_records (AreAbove g.K.RecKind.form c.args.site.now.bounds c.args.after.now) c.records_after.result (records_above g.K.RecKind.form c.args.after.now (records_of g.K.RecKind.form c.in_ok-block.block.bytes)) c.records_after.ensures.above
    (λ xs is. sound_above g.K.RecKind.form g.met.K.RecKind.lawful c.args.site.now c.args.level false c.args.p c.in_ok-block.block.bytes c.in_ok-block.ensures.passes c.if-level-eq0.true c.args.after.now xs is)

pub first_piece-requires : goal.first_piece-requires
first_piece-requires g t c κs within =
    let pos : 0 < c.args.level = omega (arith, c.if-level-eq0.false) in
    let some = node_some g.K.RecKind.form c.args.site.now c.args.level false c.args.p c.in_ok-block.block.bytes c.in_ok-block.ensures.passes pos in
    let inside : c.child_in-child.result < c.args.site.now.bounds.length = rw (c.child_in-child.ensures) (child_inside g.K.RecKind.form c.args.site.now c.args.level false c.args.p c.in_ok-block.block.bytes c.in_ok-block.ensures.passes pos 0 (omega (arith, some))) in
    search rules

pub returns-clause-exact : goal.returns-clause-exact
returns-clause-exact g t c = λ m e.
    first_by_child g.K.RecKind.form c.args.site.now m c.args.after.now c.args.level c.args.p c.child_in-child.result c.args.met.now.items c.meet.new.met.items c.first_piece.new.met.items c.in_ok-block.block.bytes c.first_piece.result (omega (arith, c.if-level-eq0.false)) (c.in_ok-block.ensures.told m e) c.in_ok-block.ensures.passes c.in_ok-meet.ensures.done c.child_in-child.ensures (c.first_piece.ensures.exact m (c.in_ok-block.ensures.reading.same ∙ e))
