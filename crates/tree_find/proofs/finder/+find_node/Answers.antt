use Rattle.std.proofs.Common.{rules, ◌<◌, ◌∙◌, sym, arith}
use Rattle.std.proofs.lemmas.Result.{err_from_is_err_and}
use Rattle.tree_defs.proofs.LoneFacts.{leaf_room, node_room, leaf_inside, leaf_supported}
use Rattle.tree_find.proofs.FindLemmas.{refused_here, at_leaf, no_child, by_child, one_more}
use Rattle.tree_find.proofs.OpenLemmas.{leaf_rising, node_rising, low_level, next_inside}
use Rattle.tree_find.proofs.RecordLemmas.{sound_record}
use Rattle.tree_find.proofs.finder.+find_node.Goals as goal

pub returns-in_err-block-clause-exact : goal.returns-in_err-block-clause-exact
returns-in_err-block-clause-exact g t c = λ m e.
    let p = err_from_is_err_and c.from_residual.result c.from_residual.ensures.1 in
    rw (p.1, p.2) (refused_here g.K.RecKind.form c.args.site.now m c.args.key.now c.args.level c.args.root c.args.p c.in_err-block.field-0.0 (c.in_err-block.ensures.refused m e))

pub record_of_key-requires-clause-room : goal.record_of_key-requires-clause-room
record_of_key-requires-clause-room g t c = leaf_room g.K.RecKind.form c.args.site.now c.args.level c.args.root c.args.p c.in_ok-block.block.bytes c.in_ok-block.ensures.passes c.if-level-eq0.true

pub record_of_key-requires-clause-rising : goal.record_of_key-requires-clause-rising
record_of_key-requires-clause-rising g t c = leaf_rising g.K.RecKind.form c.args.site.now c.args.level c.args.root c.args.p c.in_ok-block.block.bytes c.in_ok-block.ensures.passes c.if-level-eq0.true

pub returns-then-level-eq0-clause-exact : goal.returns-then-level-eq0-clause-exact
returns-then-level-eq0-clause-exact g t c = λ m e.
    at_leaf g.K.RecKind.form c.args.site.now m c.args.key.now c.args.level c.args.root c.args.p c.in_ok-block.block.bytes c.record_of_key.result c.if-level-eq0.true (c.in_ok-block.ensures.told m e) c.in_ok-block.ensures.passes c.record_of_key.ensures

pub child_of_key-requires-clause-room : goal.child_of_key-requires-clause-room
child_of_key-requires-clause-room g t c = node_room g.K.RecKind.form c.args.site.now c.args.level c.args.root c.args.p c.in_ok-block.block.bytes c.in_ok-block.ensures.passes (omega (arith, c.if-level-eq0.false))

pub child_of_key-requires-clause-rising : goal.child_of_key-requires-clause-rising
child_of_key-requires-clause-rising g t c = node_rising g.K.RecKind.form c.args.site.now c.args.level c.args.root c.args.p c.in_ok-block.block.bytes c.in_ok-block.ensures.passes (omega (arith, c.if-level-eq0.false))

pub find_node-requires : goal.find_node-requires
find_node-requires g t c κs within =
    let inside : c.in-Some.child < c.args.site.now.bounds.length = next_inside g.K.RecKind.form c.args.site.now c.args.level c.args.root c.args.p c.in_ok-block.block.bytes c.in_ok-block.ensures.passes (omega (arith, c.if-level-eq0.false)) c.args.key.now c.in-Some.child (sym c.in-Some.ensures) in
    search rules

pub returns-in-None-clause-exact : goal.returns-in-None-clause-exact
returns-in-None-clause-exact g t c = λ m e.
    no_child g.K.RecKind.form c.args.site.now m c.args.key.now c.args.level c.args.root c.args.p c.in_ok-block.block.bytes c.child_of_key.result (omega (arith, c.if-level-eq0.false)) (c.in_ok-block.ensures.told m e) c.in_ok-block.ensures.passes c.child_of_key.ensures c.in-None.is

pub returns-in-Some-clause-exact : goal.returns-in-Some-clause-exact
returns-in-Some-clause-exact g t c = λ m e.
    by_child g.K.RecKind.form c.args.site.now m c.args.key.now c.args.level c.args.root c.args.p c.in_ok-block.block.bytes c.child_of_key.result c.in-Some.child c.find_node.result (omega (arith, c.if-level-eq0.false)) (c.in_ok-block.ensures.told m e) c.in_ok-block.ensures.passes c.child_of_key.ensures c.in-Some.is (c.find_node.ensures.exact m (c.in_ok-block.ensures.reading.same ∙ e))

pub returns-in-Some-clause-few : goal.returns-in-Some-clause-few
returns-in-Some-clause-few g t c =
    one_more c.args.level (g.B.Blocks.count c.args.blocks.now) (g.B.Blocks.count c.open_block.new.blocks) (g.B.Blocks.count c.find_node.new.blocks) (omega (arith, c.if-level-eq0.false)) (low_level g.K.RecKind.form c.args.site.now c.args.level c.args.root c.args.p c.in_ok-block.block.bytes c.in_ok-block.ensures.passes) c.in_ok-block.ensures.one c.find_node.ensures.few

pub returns-then-level-eq0-clause-sound : goal.returns-then-level-eq0-clause-sound
returns-then-level-eq0-clause-sound g t c =
    sound_record g.K.RecKind.form c.args.site.now.bounds c.args.key.now c.in_ok-block.block.bytes c.record_of_key.result (leaf_inside g.K.RecKind.form c.args.site.now c.args.level c.args.root c.args.p c.in_ok-block.block.bytes c.in_ok-block.ensures.passes c.if-level-eq0.true) (leaf_supported g.K.RecKind.form c.args.site.now c.args.level c.args.root c.args.p c.in_ok-block.block.bytes c.in_ok-block.ensures.passes c.if-level-eq0.true) c.record_of_key.ensures
