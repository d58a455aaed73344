use Rattle.std.proofs.Common.{arith}
use Rattle.tree_blocks.proofs.ReadingLemmas.{reads_on}
use Rattle.tree_defs.proofs.LoneFacts.{leaf_room, node_room, child_inside}
use Rattle.tree_find.proofs.OpenLemmas.{leaf_rising, node_rising, node_some}
use Rattle.place_apply.proofs.FitLemmas.{room_at, room_for_two}
use Rattle.place_apply.proofs.edits.+apply_below.Goals as goal

pub leaf_items-requires-clause-room : goal.leaf_items-requires-clause-room
leaf_items-requires-clause-room g t c = leaf_room g.K.RecKind.form c.args.task.now.ask.site c.args.spot.level c.args.spot.root c.args.spot.block c.in_ok-block.block.bytes c.in_ok-block.ensures.passes c.if-spot-eq0.true

pub leaf_items-requires-clause-rising : goal.leaf_items-requires-clause-rising
leaf_items-requires-clause-rising g t c = leaf_rising g.K.RecKind.form c.args.task.now.ask.site c.args.spot.level c.args.spot.root c.args.spot.block c.in_ok-block.block.bytes c.in_ok-block.ensures.passes c.if-spot-eq0.true

pub start_for-at-requires-clause-room : goal.start_for-at-requires-clause-room
start_for-at-requires-clause-room g t c = node_room g.K.RecKind.form c.args.task.now.ask.site c.args.spot.level c.args.spot.root c.args.spot.block c.in_ok-block.block.bytes c.in_ok-block.ensures.passes (omega (arith, c.if-spot-eq0.false))

pub start_for-at-requires-clause-rising : goal.start_for-at-requires-clause-rising
start_for-at-requires-clause-rising g t c = node_rising g.K.RecKind.form c.args.task.now.ask.site c.args.spot.level c.args.spot.root c.args.spot.block c.in_ok-block.block.bytes c.in_ok-block.ensures.passes (omega (arith, c.if-spot-eq0.false))

pub start_for-at-requires-clause-some : goal.start_for-at-requires-clause-some
start_for-at-requires-clause-some g t c = node_some g.K.RecKind.form c.args.task.now.ask.site c.args.spot.level c.args.spot.root c.args.spot.block c.in_ok-block.block.bytes c.in_ok-block.ensures.passes (omega (arith, c.if-spot-eq0.false))

pub spot_below-below-requires-clause-most : goal.spot_below-below-requires-clause-most
spot_below-below-requires-clause-most g t c = node_room g.K.RecKind.form c.args.task.now.ask.site c.args.spot.level c.args.spot.root c.args.spot.block c.in_ok-block.block.bytes c.in_ok-block.ensures.passes (omega (arith, c.if-spot-eq0.false))

pub spot_below-below-requires-clause-leads : goal.spot_below-below-requires-clause-leads
spot_below-below-requires-clause-leads g t c = λ i lt. child_inside g.K.RecKind.form c.args.task.now.ask.site c.args.spot.level c.args.spot.root c.args.spot.block c.in_ok-block.block.bytes c.in_ok-block.ensures.passes (omega (arith, c.if-spot-eq0.false)) i lt

pub settle-requires-clause-most : goal.settle-requires-clause-most
settle-requires-clause-most g t c = node_room g.K.RecKind.form c.args.task.now.ask.site c.args.spot.level c.args.spot.root c.args.spot.block c.in_ok-block.block.bytes c.in_ok-block.ensures.passes (omega (arith, c.if-spot-eq0.false))

pub settle-requires-clause-leads : goal.settle-requires-clause-leads
settle-requires-clause-leads g t c = λ i lt. child_inside g.K.RecKind.form c.args.task.now.ask.site c.args.spot.level c.args.spot.root c.args.spot.block c.in_ok-block.block.bytes c.in_ok-block.ensures.passes (omega (arith, c.if-spot-eq0.false)) i lt

pub node_items-requires-clause-room : goal.node_items-requires-clause-room
node_items-requires-clause-room g t c = node_room g.K.RecKind.form c.args.task.now.ask.site c.args.spot.level c.args.spot.root c.args.spot.block c.in_ok-block.block.bytes c.in_ok-block.ensures.passes (omega (arith, c.if-spot-eq0.false))

pub returns-in_err-items-2-clause-reading : goal.returns-in_err-items-2-clause-reading
returns-in_err-items-2-clause-reading g t c =
    let on = reads_on g.B.Blocks g.met.B.Blocks.follows_trans c.args.blocks.now in
    on _ _ (on _ _ c.in_ok-block.ensures.reading c.in_ok-parts.ensures.reading) c.in_ok-turn.ensures.reading

pub rewrite-requires-2-clause-room : goal.rewrite-requires-2-clause-room
rewrite-requires-2-clause-room g t c =
    omega (arith, c.in_ok-items-2.ensures.count, room_at g.K.RecKind.form c.args.task.now.ask.site c.args.spot.level c.args.spot.root c.args.spot.block c.in_ok-block.block.bytes c.in_ok-block.ensures.passes, room_for_two g.K.RecKind.form.kind c.args.spot.level)

pub returns-clause-reading : goal.returns-clause-reading
returns-clause-reading g t c =
    let on = reads_on g.B.Blocks g.met.B.Blocks.follows_trans c.args.blocks.now in
    on _ _ (on _ _ (on _ _ c.in_ok-block.ensures.reading c.in_ok-parts.ensures.reading) c.in_ok-turn.ensures.reading) c.rewrite-2.ensures.reading
