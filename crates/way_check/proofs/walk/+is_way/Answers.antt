use Rattle.std.proofs.Common.{rules, ◌-◌, ◌<◌, ◌∙◌, sym, arith}
use Rattle.std.proofs.lemmas.Result.{IfOk-weaker}
use Rattle.tree_defs.proofs.LoneFacts.{leaf_room, node_room}
use Rattle.tree_blocks.proofs.ReadingLemmas.{reads_on}
use Rattle.tree_find.proofs.OpenLemmas.{leaf_rising, node_rising, node_some}
use Rattle.way_check.proofs.StepLemmas.{leaf_up, node_up}
use Rattle.way_check.proofs.walk.+is_way.Goals as goal

pub is_leaf-requires-clause-room : goal.is_leaf-requires-clause-room
is_leaf-requires-clause-room g t c = leaf_room g.K.RecKind.form c.args.ask.now.site c.args.spot.level c.args.spot.root c.args.spot.block c.in_ok-old.old.bytes c.in_ok-old.ensures.passes c.if-spot-eq0.true

pub is_leaf-requires-clause-rising : goal.is_leaf-requires-clause-rising
is_leaf-requires-clause-rising g t c = leaf_rising g.K.RecKind.form c.args.ask.now.site c.args.spot.level c.args.spot.root c.args.spot.block c.in_ok-old.old.bytes c.in_ok-old.ensures.passes c.if-spot-eq0.true

pub is_leaf-requires-clause-new_room : goal.is_leaf-requires-clause-new_room
is_leaf-requires-clause-new_room g t c = leaf_room g.K.RecKind.form c.args.ask.now.site c.args.spot.level c.args.spot.root c.args.spot.block c.in-Some.last.now.1.bytes (c.does_pass.ensures c.if-not-does_pass.false).lone c.if-spot-eq0.true

pub returns-then-spot-eq0-clause-way : goal.returns-then-spot-eq0-clause-way
returns-then-spot-eq0-clause-way g t c = λ yes m e.
    leaf_up g.K.RecKind.form g.met.K.RecKind.lawful c.args.ask.now m c.args.spot c.args.placed.now c.in-Some.lower.now c.in-Some.last.now c.in_ok-old.old.bytes c.in-Some.ensures.cases.0 c.if-last-spot.false (c.in_ok-old.ensures.told m e) (c.does_pass.ensures c.if-not-does_pass.false)
    c.if-spot-eq0.true (c.are_none.ensures c.if-not-are_none.false) (c.is_leaf.ensures yes)

pub step_below-requires-clause-room : goal.step_below-requires-clause-room
step_below-requires-clause-room g t c = node_room g.K.RecKind.form c.args.ask.now.site c.args.spot.level c.args.spot.root c.args.spot.block c.in_ok-old.old.bytes c.in_ok-old.ensures.passes (omega (arith, c.if-spot-eq0.false))

pub step_below-requires-clause-rising : goal.step_below-requires-clause-rising
step_below-requires-clause-rising g t c = node_rising g.K.RecKind.form c.args.ask.now.site c.args.spot.level c.args.spot.root c.args.spot.block c.in_ok-old.old.bytes c.in_ok-old.ensures.passes (omega (arith, c.if-spot-eq0.false))

pub step_below-requires-clause-some : goal.step_below-requires-clause-some
step_below-requires-clause-some g t c = node_some g.K.RecKind.form c.args.ask.now.site c.args.spot.level c.args.spot.root c.args.spot.block c.in_ok-old.old.bytes c.in_ok-old.ensures.passes (omega (arith, c.if-spot-eq0.false))

pub step_below-requires-clause-new_room : goal.step_below-requires-clause-new_room
step_below-requires-clause-new_room g t c = node_room g.K.RecKind.form c.args.ask.now.site c.args.spot.level c.args.spot.root c.args.spot.block c.in-Some.last.now.1.bytes (c.does_pass.ensures c.if-not-does_pass.false).lone (omega (arith, c.if-spot-eq0.false))

pub is_way-requires : goal.is_way-requires
is_way-requires g t c κs within =
    let inside : c.in-Some-step_below.block < c.args.ask.now.site.bounds.length = c.in-Some-step_below.ensures.inside in
    search rules

pub returns-in-Some-step_below-clause-way : goal.returns-in-Some-step_below-clause-way
returns-in-Some-step_below-clause-way g t c =
    IfOk-weaker c.is_way.result _ _ (λ y way yes m e.
    node_up g.K.RecKind.form g.met.K.RecKind.lawful c.args.ask.now m c.args.spot c.args.placed.now c.in-Some.lower.now c.in-Some.last.now c.in_ok-old.old.bytes c.in-Some.ensures.cases.0 c.if-last-spot.false (c.in_ok-old.ensures.told m e) (c.does_pass.ensures c.if-not-does_pass.false)
    (c.args.spot.level - 1) c.in-Some-step_below.block (omega (arith, c.if-spot-eq0.false)) (sym c.has_block.ensures ∙ c.if-has_block.false) c.in-Some-step_below.ensures (way yes m (c.in_ok-old.ensures.reading.same ∙ e)))
    c.is_way.ensures.way

pub returns-in-Some-step_below-clause-reading : goal.returns-in-Some-step_below-clause-reading
returns-in-Some-step_below-clause-reading g t c = reads_on g.B.Blocks g.met.B.Blocks.follows_trans c.args.blocks.now c.open_block.new.blocks c.is_way.new.blocks c.in_ok-old.ensures.reading c.is_way.ensures.reading
