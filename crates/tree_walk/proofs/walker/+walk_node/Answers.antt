use Rattle.std.proofs.Common.{◌≡◌, ◌-◌, ◌<◌, length, sym, ◌∙◌, ap, arith, false}
use Rattle.std.proofs.lemmas.Result.{err_from_is_err_and}
use Rattle.sblock.specs.Area.{child_of}
use Rattle.sblock.specs.Blocks.{numrecs}
use Rattle.tree_defs.specs.Tree.{read_node}
use Rattle.tree_defs.specs.Walked.{walked_node}
use Rattle.tree_walk.specs.Trails.{trail_of}
use Rattle.tree_walk.proofs.BlockFacts.{noted_blocks, noted_recs, noted_lie, lie_still, leaf_room, leaf_inside, node_room, children_inside, child_inside}
use Rattle.tree_blocks.proofs.ReadingLemmas.{reads_on}
use Rattle.tree_walk.proofs.StepLemmas.{node_taken, refused_node, leaf_meets, leaf_sound, step_read, step_wrong, step_bad, all_read, on_ok, node_counted, refused_counted, leaf_has_read, none_counted, child_counted, wrong_counted, cut_off}
use Rattle.tree_walk.proofs.walker.+walk_node.Goals as goal

pub returns-in_err-enter-clause-exact : goal.returns-in_err-enter-clause-exact
returns-in_err-enter-clause-exact g t c = λ m e.
    let p = err_from_is_err_and c.from_residual.result c.from_residual.ensures.1 in
    rw (p.1, p.2) (refused_node g.K.RecKind.form c.args.site.now m c.args.level c.args.root c.args.p (trail_of c.args.seen.now) c.in_err-enter.field-0.0 (c.in_err-enter.ensures.refused m e))

pub returns-in_err-enter-clause-counted : goal.returns-in_err-enter-clause-counted
returns-in_err-enter-clause-counted g t c = λ m e.
    let p = err_from_is_err_and c.from_residual.result c.from_residual.ensures.1 in
    rw (p.1, p.2) (refused_counted g.K.RecKind.form c.args.site.now m c.args.level c.args.root c.args.p (trail_of c.args.seen.now) c.in_err-enter.field-0.0 (g.B.Blocks.count c.args.blocks.now) (g.B.Blocks.count c.enter.new.blocks) (c.in_err-enter.ensures.refused m e) c.in_err-enter.ensures.one)

pub take_leaf-requires-clause-room : goal.take_leaf-requires-clause-room
take_leaf-requires-clause-room g t c = leaf_room g.K.RecKind.form c.args.site.now (trail_of c.args.seen.now) c.args.level c.args.root c.args.p c.enter.new.block.bytes c.in_ok-enter.ensures.passes c.if-level-eq0.true

pub take_leaf-requires-clause-inside : goal.take_leaf-requires-clause-inside
take_leaf-requires-clause-inside g t c = leaf_inside g.K.RecKind.form c.args.site.now (trail_of c.args.seen.now) c.args.level c.args.root c.args.p c.enter.new.block.bytes c.in_ok-enter.ensures.passes c.if-level-eq0.true

pub returns-then-level-eq0-clause-exact : goal.returns-then-level-eq0-clause-exact
returns-then-level-eq0-clause-exact g t c = λ m e.
    leaf_meets g.K.RecKind.form c.args.site.now m c.args.level c.args.root c.args.p (trail_of c.args.seen.now) (trail_of c.enter.new.seen) (trail_of c.take_leaf.new.seen) c.enter.new.block.bytes c.take_leaf.result c.if-level-eq0.true (c.in_ok-enter.ensures.told m e) c.in_ok-enter.ensures.passes c.in_ok-enter.ensures.trail c.take_leaf.ensures.span c.take_leaf.ensures.trail c.take_leaf.ensures.memory

pub returns-then-level-eq0-clause-sound : goal.returns-then-level-eq0-clause-sound
returns-then-level-eq0-clause-sound g t c = λ before.
    leaf_sound g.K.RecKind.form c.args.site.now c.args.level c.args.root c.args.p (trail_of c.args.seen.now) (trail_of c.enter.new.seen) (trail_of c.take_leaf.new.seen) c.enter.new.block.bytes c.take_leaf.result c.if-level-eq0.true c.in_ok-enter.ensures.passes c.in_ok-enter.ensures.trail c.take_leaf.ensures.trail before

pub returns-then-level-eq0-clause-lie : goal.returns-then-level-eq0-clause-lie
returns-then-level-eq0-clause-lie g t c = λ before.
    lie_still c.args.site.now.bounds.length c.enter.new.seen.blocks.items c.take_leaf.new.seen.blocks.items c.take_leaf.result c.take_leaf.ensures.blocks (noted_lie (trail_of c.args.seen.now) (trail_of c.enter.new.seen) c.args.level c.args.p c.enter.new.block.bytes c.args.site.now.bounds.length c.in_ok-enter.ensures.trail c.requires.inside before)

pub returns-then-level-eq0-clause-counted : goal.returns-then-level-eq0-clause-counted
returns-then-level-eq0-clause-counted g t c = λ m e.
    leaf_has_read g.K.RecKind.form c.args.site.now m c.args.level c.args.root c.args.p (trail_of c.args.seen.now) c.take_leaf.result (g.B.Blocks.count c.args.blocks.now) (g.B.Blocks.count c.enter.new.blocks) c.if-level-eq0.true c.take_leaf.ensures.memory c.in_ok-enter.ensures.one

pub returns-then-level-eq0-clause-each : goal.returns-then-level-eq0-clause-each
returns-then-level-eq0-clause-each g t c =
    let a = noted_blocks (trail_of c.args.seen.now) (trail_of c.enter.new.seen) c.args.level c.args.p c.enter.new.block.bytes c.in_ok-enter.ensures.trail in
    let b : length c.take_leaf.new.seen.blocks.items ≡ length c.enter.new.seen.blocks.items = ap length c.take_leaf.ensures.blocks in
    on_ok c.take_leaf.result (omega (arith, c.in_ok-enter.ensures.one))

pub loop-i-init : goal.loop-i-init
loop-i-init g t c =
    let form = g.K.RecKind.form in
    let bytes = c.enter.new.block.bytes in
    let before = trail_of c.args.seen.now in
    let pos : 0 < c.args.level = omega (arith, c.if-level-eq0.false) in
    let a = noted_blocks before (trail_of c.enter.new.seen) c.args.level c.args.p bytes c.in_ok-enter.ensures.trail in
    let r = noted_recs before (trail_of c.enter.new.seen) c.args.level c.args.p bytes c.in_ok-enter.ensures.trail in
    let count : c.count_of-i-end.result ≡ numrecs bytes = c.count_of-i-end.ensures in
    let n : c.count_of-i-end.result - 0 ≡ numrecs bytes = omega (arith, count) in
    let room = node_room form c.args.site.now before c.args.level c.args.root c.args.p bytes c.in_ok-enter.ensures.passes pos in
    let below = children_inside form c.args.site.now before c.args.level c.args.root c.args.p bytes c.in_ok-enter.ensures.passes pos in
    record {
      goes_on = λ m e. rw (n, c.data_area-area.ensures.shows, c.in_ok-enter.ensures.trail) (sym (node_taken form c.args.site.now m c.args.level c.args.root c.args.p before bytes pos (c.in_ok-enter.ensures.told m e) c.in_ok-enter.ensures.passes));
      sound = λ s. rw r s;
      lie = λ s. noted_lie before (trail_of c.enter.new.seen) c.args.level c.args.p bytes c.args.site.now.bounds.length c.in_ok-enter.ensures.trail c.requires.inside s;
      counted = λ m e. rw (n, c.data_area-area.ensures.shows, c.in_ok-enter.ensures.trail) (omega (arith, c.in_ok-enter.ensures.one, node_counted form c.args.site.now m c.args.level c.args.root c.args.p before bytes pos (c.in_ok-enter.ensures.told m e) c.in_ok-enter.ensures.passes));
      reading = c.in_ok-enter.ensures.reading;
      calm = c.in_ok-enter.ensures.cause;
      room = omega (arith, room, count);
      inside = λ k lt. rw (c.data_area-area.ensures.shows) (child_inside form c.args.site.now.bounds.length bytes below k (omega (arith, lt, count)));
      each = omega (arith, c.in_ok-enter.ensures.one, a);
    }

pub returns-then-not-does_agree-clause-exact : goal.returns-then-not-does_agree-clause-exact
returns-then-not-does_agree-clause-exact g t c = λ m e.
    let form = g.K.RecKind.form in
    let child : c.child_at-child.result ≡ child_of form.kind c.data_area-area.result.now c.loop-i.i = rw (c.kind.ensures) at c.child_at-child.ensures in
    step_wrong form (read_node form c.args.site.now m (c.args.level - 1) false) c.args.p c.data_area-area.result.now c.count_of-i-end.result c.loop-i.i c.child_at-child.result (trail_of c.loop-i.seen) c.loop-i.span _ (trail_of c.walk_node.new.seen) c.in_ok-below.below c.does_agree.result c.loop-i-test.true child (c.loop-i.invariant.goes_on m e) (c.in_ok-below.ensures.exact m (c.loop-i.invariant.reading.same ∙ e)) c.does_agree.ensures c.if-not-does_agree.true

pub returns-in_err-below-clause-exact : goal.returns-in_err-below-clause-exact
returns-in_err-below-clause-exact g t c = λ m e.
    let form = g.K.RecKind.form in
    let child : c.child_at-child.result ≡ child_of form.kind c.data_area-area.result.now c.loop-i.i = rw (c.kind.ensures) at c.child_at-child.ensures in
    let p = err_from_is_err_and c.from_residual-in_err-below.result c.from_residual-in_err-below.ensures.1 in
    rw (p.1, p.2) (step_bad form (read_node form c.args.site.now m (c.args.level - 1) false) c.args.p c.data_area-area.result.now c.count_of-i-end.result c.loop-i.i c.child_at-child.result (trail_of c.loop-i.seen) c.loop-i.span _ c.in_err-below.field-0.0 c.loop-i-test.true child (c.loop-i.invariant.goes_on m e) (c.in_err-below.ensures.exact m (c.loop-i.invariant.reading.same ∙ e)))

pub returns-then-not-does_agree-clause-counted : goal.returns-then-not-does_agree-clause-counted
returns-then-not-does_agree-clause-counted g t c = λ m e.
    let form = g.K.RecKind.form in
    let child : c.child_at-child.result ≡ child_of form.kind c.data_area-area.result.now c.loop-i.i = rw (c.kind.ensures) at c.child_at-child.ensures in
    omega (
      arith,
      c.loop-i.invariant.counted m e,
      c.in_ok-below.ensures.counted m (c.loop-i.invariant.reading.same ∙ e),
      wrong_counted form (read_node form c.args.site.now m (c.args.level - 1) false) (walked_node form c.args.site.now m (c.args.level - 1) false) c.data_area-area.result.now c.count_of-i-end.result c.loop-i.i c.child_at-child.result (trail_of c.loop-i.seen) c.loop-i-test.true child (trail_of c.walk_node.new.seen) c.in_ok-below.below c.does_agree.result (c.in_ok-below.ensures.exact m (c.loop-i.invariant.reading.same ∙ e)) c.does_agree.ensures c.if-not-does_agree.true,
    )

pub returns-in_err-below-clause-counted : goal.returns-in_err-below-clause-counted
returns-in_err-below-clause-counted g t c = λ m e.
    let form = g.K.RecKind.form in
    let child : c.child_at-child.result ≡ child_of form.kind c.data_area-area.result.now c.loop-i.i = rw (c.kind.ensures) at c.child_at-child.ensures in
    let p = err_from_is_err_and c.from_residual-in_err-below.result c.from_residual-in_err-below.ensures.1 in
    rw (p.1, p.2) (cut_off form (read_node form c.args.site.now m (c.args.level - 1) false) (walked_node form c.args.site.now m (c.args.level - 1) false) c.data_area-area.result.now c.count_of-i-end.result c.loop-i.i c.child_at-child.result (trail_of c.loop-i.seen) c.loop-i-test.true child c.in_err-below.field-0.0 (g.B.Blocks.count c.args.blocks.now) (g.B.Blocks.count c.loop-i.blocks) (g.B.Blocks.count c.walk_node.new.blocks) (walked_node form c.args.site.now m c.args.level c.args.root c.args.p (trail_of c.args.seen.now)) (c.loop-i.invariant.counted m e) (c.in_err-below.ensures.exact m (c.loop-i.invariant.reading.same ∙ e)) (c.in_err-below.ensures.counted m (c.loop-i.invariant.reading.same ∙ e)))

pub loop-i-preserved : goal.loop-i-preserved
loop-i-preserved g t c =
    let form = g.K.RecKind.form in
    let child : c.child_at-child.result ≡ child_of form.kind c.data_area-area.result.now c.loop-i.i = rw (c.kind.ensures) at c.child_at-child.ensures in
    record {
      goes_on = λ m e. step_read form (read_node form c.args.site.now m (c.args.level - 1) false) c.args.p c.data_area-area.result.now c.count_of-i-end.result c.loop-i.i c.child_at-child.result (trail_of c.loop-i.seen) c.loop-i.span _ (trail_of c.walk_node.new.seen) c.in_ok-below.below c.join_spans-span.result c.does_agree.result c.loop-i-test.true child (c.loop-i.invariant.goes_on m e) (c.in_ok-below.ensures.exact m (c.loop-i.invariant.reading.same ∙ e)) c.does_agree.ensures c.if-not-does_agree.false c.join_spans-span.ensures;
      sound = λ s. c.in_ok-below.ensures.sound (c.loop-i.invariant.sound s);
      lie = λ s. c.in_ok-below.ensures.lie (c.loop-i.invariant.lie s);
      counted = λ m e. omega (
        arith,
        c.loop-i.invariant.counted m e,
        c.in_ok-below.ensures.counted m (c.loop-i.invariant.reading.same ∙ e),
        child_counted form (read_node form c.args.site.now m (c.args.level - 1) false) (walked_node form c.args.site.now m (c.args.level - 1) false) c.data_area-area.result.now c.count_of-i-end.result c.loop-i.i c.child_at-child.result (trail_of c.loop-i.seen) c.loop-i-test.true child (trail_of c.walk_node.new.seen) c.in_ok-below.below c.does_agree.result (c.in_ok-below.ensures.exact m (c.loop-i.invariant.reading.same ∙ e)) c.does_agree.ensures c.if-not-does_agree.false,
      );
      reading = reads_on g.B.Blocks g.met.B.Blocks.follows_trans c.args.blocks.now c.loop-i.blocks c.walk_node.new.blocks c.loop-i.invariant.reading c.walk_node.ensures.reading;
      calm = c.in_ok-below.ensures.cause ∙ c.loop-i.invariant.calm;
      room = c.loop-i.invariant.room;
      inside = c.loop-i.invariant.inside;
      each = omega (arith, c.loop-i.invariant.each, c.in_ok-below.ensures.each);
    }

pub returns-clause-exact : goal.returns-clause-exact
returns-clause-exact g t c = λ m e.
    let form = g.K.RecKind.form in
    all_read form (read_node form c.args.site.now m (c.args.level - 1) false) c.args.p c.data_area-area.result.now c.count_of-i-end.result c.loop-i.i 0 (trail_of c.loop-i.seen) c.loop-i.span _ c.loop-i-test.false (c.loop-i.invariant.goes_on m e)

pub returns-clause-counted : goal.returns-clause-counted
returns-clause-counted g t c = λ m e.
    let form = g.K.RecKind.form in
    omega (
      arith,
      c.loop-i.invariant.counted m e,
      none_counted form (read_node form c.args.site.now m (c.args.level - 1) false) (walked_node form c.args.site.now m (c.args.level - 1) false) c.data_area-area.result.now c.count_of-i-end.result c.loop-i.i (trail_of c.loop-i.seen) c.loop-i-test.false,
    )
