use Rattle.std.proofs.Common.{rules, ◌≡◌, ◌<◌, ◌≤◌, ◌-◌, ◌∙◌, arith}
use Rattle.std.proofs.lemmas.Result.{err_from_is_err_and}
use Rattle.sblock.specs.Area.{area_of, child_of}
use Rattle.sblock.specs.Blocks.{numrecs}
use Rattle.sblock.specs.Kinds.{node_most_of}
use Rattle.tree_defs.proofs.LoneFacts.{leaf_room, node_room, leaf_inside, leaf_supported, child_inside}
use Rattle.tree_find.proofs.FindLemmas.{one_more}
use Rattle.tree_find.proofs.LastLemmas.{refused_last, last_at_leaf, last_by_child, sound_last}
use Rattle.tree_find.proofs.OpenLemmas.{low_level, node_some}
use Rattle.tree_find.proofs.rightmost.+last_node.Goals as goal

pub returns-in_err-block-clause-exact : goal.returns-in_err-block-clause-exact
returns-in_err-block-clause-exact g t c = λ m e.
    let p = err_from_is_err_and c.from_residual.result c.from_residual.ensures.1 in
    rw (p.1, p.2) (refused_last g.K.RecKind.form c.args.site.now m c.args.level c.args.root c.args.p c.in_err-block.field-0.0 (c.in_err-block.ensures.refused m e))

pub last_record-requires : goal.last_record-requires
last_record-requires g t c = leaf_room g.K.RecKind.form c.args.site.now c.args.level c.args.root c.args.p c.in_ok-block.block.bytes c.in_ok-block.ensures.passes c.if-level-eq0.true

pub returns-then-level-eq0-clause-exact : goal.returns-then-level-eq0-clause-exact
returns-then-level-eq0-clause-exact g t c = λ m e.
    last_at_leaf g.K.RecKind.form c.args.site.now m c.args.level c.args.root c.args.p c.in_ok-block.block.bytes c.last_record.result c.if-level-eq0.true (c.in_ok-block.ensures.told m e) c.in_ok-block.ensures.passes c.last_record.ensures

pub returns-then-level-eq0-clause-sound : goal.returns-then-level-eq0-clause-sound
returns-then-level-eq0-clause-sound g t c =
    sound_last g.K.RecKind.form c.args.site.now.bounds c.in_ok-block.block.bytes c.last_record.result (leaf_inside g.K.RecKind.form c.args.site.now c.args.level c.args.root c.args.p c.in_ok-block.block.bytes c.in_ok-block.ensures.passes c.if-level-eq0.true) (leaf_supported g.K.RecKind.form c.args.site.now c.args.level c.args.root c.args.p c.in_ok-block.block.bytes c.in_ok-block.ensures.passes c.if-level-eq0.true) c.last_record.ensures

pub child_in-child-requires : goal.child_in-child-requires
child_in-child-requires g t c =
    let pos : 0 < c.args.level = omega (arith, c.if-level-eq0.false) in
    let room : numrecs c.in_ok-block.block.bytes ≤ node_most_of g.K.RecKind.form.kind = node_room g.K.RecKind.form c.args.site.now c.args.level c.args.root c.args.p c.in_ok-block.block.bytes c.in_ok-block.ensures.passes pos in
    let some = node_some g.K.RecKind.form c.args.site.now c.args.level c.args.root c.args.p c.in_ok-block.block.bytes c.in_ok-block.ensures.passes pos in
    omega (arith, room, some, c.count_of-n.ensures)

pub last_node-requires : goal.last_node-requires
last_node-requires g t c κs within =
    let pos : 0 < c.args.level = omega (arith, c.if-level-eq0.false) in
    let some = node_some g.K.RecKind.form c.args.site.now c.args.level c.args.root c.args.p c.in_ok-block.block.bytes c.in_ok-block.ensures.passes pos in
    let inside : c.child_in-child.result < c.args.site.now.bounds.length = rw (c.child_in-child.ensures) (child_inside g.K.RecKind.form c.args.site.now c.args.level c.args.root c.args.p c.in_ok-block.block.bytes c.in_ok-block.ensures.passes pos c.saturating_sub.result (omega (arith, some, c.count_of-n.ensures, c.saturating_sub.ensures))) in
    search rules

pub returns-clause-exact : goal.returns-clause-exact
returns-clause-exact g t c = λ m e.
    let n : c.saturating_sub.result ≡ numrecs c.in_ok-block.block.bytes - 1 = omega (arith, c.count_of-n.ensures, c.saturating_sub.ensures) in
    let q : c.child_in-child.result ≡ child_of g.K.RecKind.form.kind (area_of c.in_ok-block.block.bytes) (numrecs c.in_ok-block.block.bytes - 1) = rw n at c.child_in-child.ensures in
    last_by_child g.K.RecKind.form c.args.site.now m c.args.level c.args.root c.args.p c.in_ok-block.block.bytes c.child_in-child.result c.last_node.result (omega (arith, c.if-level-eq0.false)) (c.in_ok-block.ensures.told m e) c.in_ok-block.ensures.passes q (c.last_node.ensures.exact m (c.in_ok-block.ensures.reading.same ∙ e))

pub returns-clause-few : goal.returns-clause-few
returns-clause-few g t c =
    one_more c.args.level (g.B.Blocks.count c.args.blocks.now) (g.B.Blocks.count c.open_block.new.blocks) (g.B.Blocks.count c.last_node.new.blocks) (omega (arith, c.if-level-eq0.false)) (low_level g.K.RecKind.form c.args.site.now c.args.level c.args.root c.args.p c.in_ok-block.block.bytes c.in_ok-block.ensures.passes) c.in_ok-block.ensures.one c.last_node.ensures.few
