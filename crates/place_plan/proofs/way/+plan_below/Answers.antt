use Rattle.std.proofs.Common.{◌<◌, ◌≤◌, arith}
use Rattle.tree_defs.proofs.LoneFacts.{leaf_room, node_room, child_inside}
use Rattle.tree_find.proofs.OpenLemmas.{leaf_rising, node_rising, node_some}
use Rattle.place_plan.proofs.way.+plan_below.Goals as goal

pub plan_leaf-requires-clause-room : goal.plan_leaf-requires-clause-room
plan_leaf-requires-clause-room g t c = leaf_room g.K.RecKind.form c.args.ask.now.site c.args.spot.level c.args.spot.root c.args.spot.block c.in_ok-block.block.bytes c.in_ok-block.ensures.passes c.if-spot-eq0.true

pub plan_leaf-requires-clause-rising : goal.plan_leaf-requires-clause-rising
plan_leaf-requires-clause-rising g t c = leaf_rising g.K.RecKind.form c.args.ask.now.site c.args.spot.level c.args.spot.root c.args.spot.block c.in_ok-block.block.bytes c.in_ok-block.ensures.passes c.if-spot-eq0.true

pub start_for-entry-requires-clause-room : goal.start_for-entry-requires-clause-room
start_for-entry-requires-clause-room g t c = node_room g.K.RecKind.form c.args.ask.now.site c.args.spot.level c.args.spot.root c.args.spot.block c.in_ok-block.block.bytes c.in_ok-block.ensures.passes (omega (arith, c.if-spot-eq0.false))

pub start_for-entry-requires-clause-rising : goal.start_for-entry-requires-clause-rising
start_for-entry-requires-clause-rising g t c = node_rising g.K.RecKind.form c.args.ask.now.site c.args.spot.level c.args.spot.root c.args.spot.block c.in_ok-block.block.bytes c.in_ok-block.ensures.passes (omega (arith, c.if-spot-eq0.false))

pub start_for-entry-requires-clause-some : goal.start_for-entry-requires-clause-some
start_for-entry-requires-clause-some g t c = node_some g.K.RecKind.form c.args.ask.now.site c.args.spot.level c.args.spot.root c.args.spot.block c.in_ok-block.block.bytes c.in_ok-block.ensures.passes (omega (arith, c.if-spot-eq0.false))

pub spot_below-child-requires-clause-most : goal.spot_below-child-requires-clause-most
spot_below-child-requires-clause-most g t c = node_room g.K.RecKind.form c.args.ask.now.site c.args.spot.level c.args.spot.root c.args.spot.block c.in_ok-block.block.bytes c.in_ok-block.ensures.passes (omega (arith, c.if-spot-eq0.false))

pub spot_below-child-requires-clause-leads : goal.spot_below-child-requires-clause-leads
spot_below-child-requires-clause-leads g t c = λ i lt. child_inside g.K.RecKind.form c.args.ask.now.site c.args.spot.level c.args.spot.root c.args.spot.block c.in_ok-block.block.bytes c.in_ok-block.ensures.passes (omega (arith, c.if-spot-eq0.false)) i lt

pub plan_node-requires-clause-most : goal.plan_node-requires-clause-most
plan_node-requires-clause-most g t c = node_room g.K.RecKind.form c.args.ask.now.site c.args.spot.level c.args.spot.root c.args.spot.block c.in_ok-block.block.bytes c.in_ok-block.ensures.passes (omega (arith, c.if-spot-eq0.false))

pub plan_node-requires-clause-leads : goal.plan_node-requires-clause-leads
plan_node-requires-clause-leads g t c = λ i lt. child_inside g.K.RecKind.form c.args.ask.now.site c.args.spot.level c.args.spot.root c.args.spot.block c.in_ok-block.block.bytes c.in_ok-block.ensures.passes (omega (arith, c.if-spot-eq0.false)) i lt
