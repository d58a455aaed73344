use Rattle.std.proofs.Common.{rules, ◌≡◌, ◌-◌, ◌<◌, false, Ok, arith, sym, ap, ◌∙◌}
use Rattle.std.proofs.lemmas.Result.{err_from_is_err_and}
use Rattle.ino_recs.specs.Chunks.{ino_form}
use Rattle.sblock.specs.Area.{area_of, child_of}
use Rattle.sblock.specs.Blocks.{numrecs}
use Rattle.sblock.specs.declared.kind.Kind.TheVariants.{Ino}
use Rattle.tree_defs.specs.Tree.{entry_at}
use Rattle.tree_defs.proofs.LoneFacts.{child_inside, leaf_room, node_room}
use Rattle.tree_blocks.proofs.ReadingLemmas.{reads_on}
use Rattle.tree_find.proofs.OpenLemmas.{node_rising, node_some}
use Rattle.inode_scan.specs.Search.{search_below, reads_below}
use Rattle.inode_scan.proofs.SearchLemmas.{found_here, found_reads, none_here, none_reads, refused_here, block_refused, at_leaf, leaf_reads, at_node, node_reads}
use Rattle.inode_scan.proofs.search.+search_node.Goals as goal

pub returns-in_err-block-clause-exact : goal.returns-in_err-block-clause-exact
returns-in_err-block-clause-exact g t c = λ m e. let p = err_from_is_err_and c.from_residual.result c.from_residual.ensures.1 in rw (p.1, p.2) (block_refused c.args.site.now m c.args.from c.args.end c.args.level c.args.root c.args.p c.in_err-block.field-0.0 (c.in_err-block.ensures.refused m e))

pub first_in_leaf-requires : goal.first_in_leaf-requires
first_in_leaf-requires g t c = leaf_room ino_form c.args.site.now c.args.level c.args.root c.args.p c.in_ok-block.block.bytes c.in_ok-block.ensures.passes c.if-level-eq0.true

pub returns-then-level-eq0-clause-exact : goal.returns-then-level-eq0-clause-exact
returns-then-level-eq0-clause-exact g t c = λ m e.
    at_leaf c.args.site.now m c.args.from c.args.end c.args.level c.args.root c.args.p c.in_ok-block.block.bytes c.first_in_leaf.result c.if-level-eq0.true (c.in_ok-block.ensures.told m e) c.in_ok-block.ensures.passes c.first_in_leaf.ensures.value

pub returns-then-level-eq0-clause-counted : goal.returns-then-level-eq0-clause-counted
returns-then-level-eq0-clause-counted g t c = λ m e.
    let one = leaf_reads c.args.site.now m c.args.from c.args.end c.args.level c.args.p c.if-level-eq0.true in
    let read = c.in_ok-block.ensures.one in
    omega (arith, one, read)

pub start_for-start-requires-clause-room : goal.start_for-start-requires-clause-room
start_for-start-requires-clause-room g t c = node_room ino_form c.args.site.now c.args.level c.args.root c.args.p c.in_ok-block.block.bytes c.in_ok-block.ensures.passes (omega (arith, c.if-level-eq0.false))

pub start_for-start-requires-clause-rising : goal.start_for-start-requires-clause-rising
start_for-start-requires-clause-rising g t c = node_rising ino_form c.args.site.now c.args.level c.args.root c.args.p c.in_ok-block.block.bytes c.in_ok-block.ensures.passes (omega (arith, c.if-level-eq0.false))

pub start_for-start-requires-clause-some : goal.start_for-start-requires-clause-some
start_for-start-requires-clause-some g t c = node_some ino_form c.args.site.now c.args.level c.args.root c.args.p c.in_ok-block.block.bytes c.in_ok-block.ensures.passes (omega (arith, c.if-level-eq0.false))

pub loop-i-init : goal.loop-i-init
loop-i-init g t c =
    let bytes = c.in_ok-block.block.bytes in
    let pos : 0 < c.args.level = omega (arith, c.if-level-eq0.false) in
    let count : c.count_of-i-end.result ≡ numrecs bytes = c.count_of-i-end.ensures in
    let start = rw c.saturating_sub.ensures at c.start_for-start.ensures.start in
    let room = node_room ino_form c.args.site.now c.args.level c.args.root c.args.p bytes c.in_ok-block.ensures.passes pos in
    let read = c.in_ok-block.ensures.one in
    record {
      goes_on = λ m e. at_node c.args.site.now m c.args.from c.args.end c.args.p c.count_of-i-end.result c.start_for-start.result bytes (c.in_ok-block.ensures.told m e) start count c.args.level c.args.root pos c.in_ok-block.ensures.passes;
      counted = λ m e. (
          let all = node_reads c.args.site.now m c.args.from c.args.end c.args.p c.count_of-i-end.result c.start_for-start.result bytes (c.in_ok-block.ensures.told m e) start count c.args.level pos in
          omega (arith, all, read));
      reading = c.in_ok-block.ensures.reading;
      calm = c.in_ok-block.ensures.cause;
      room = omega (arith, room, count);
      inside = λ k lt. child_inside ino_form c.args.site.now c.args.level c.args.root c.args.p bytes c.in_ok-block.ensures.passes pos k (omega (arith, lt, count));
    }

pub search_node-requires : goal.search_node-requires
search_node-requires g t c κs within =
    let child : c.child_in-child.result ≡ child_of Ino (area_of c.in_ok-block.block.bytes) c.loop-i.i = c.child_in-child.ensures in
    let inside : c.child_in-child.result < c.args.site.now.bounds.length = rw child (c.loop-i.invariant.inside c.loop-i.i c.loop-i-test.true) in
    search rules

pub returns-in-Some-clause-exact : goal.returns-in-Some-clause-exact
returns-in-Some-clause-exact g t c = λ m e.
    sym (c.loop-i.invariant.goes_on m e)
    ∙ found_here (search_below c.args.site.now m c.args.from c.args.end (c.args.level - 1) false) (λ k. k) (entry_at ino_form (area_of c.in_ok-block.block.bytes)) c.count_of-i-end.result c.loop-i.i c.child_in-child.result c.loop-i-test.true c.child_in-child.ensures c.in-Some.number
    (c.in_ok-found.ensures.exact m (c.loop-i.invariant.reading.same ∙ e) ∙ ap Ok c.in-Some.is)

pub returns-in-Some-clause-counted : goal.returns-in-Some-clause-counted
returns-in-Some-clause-counted g t c = λ m e.
    let told = c.loop-i.invariant.reading.same ∙ e in
    let all = c.loop-i.invariant.counted m e in
    let here = found_reads (search_below c.args.site.now m c.args.from c.args.end (c.args.level - 1) false) (reads_below c.args.site.now m c.args.from c.args.end (c.args.level - 1)) (entry_at ino_form (area_of c.in_ok-block.block.bytes)) c.count_of-i-end.result c.loop-i.i c.child_in-child.result c.loop-i-test.true c.child_in-child.ensures c.in-Some.number (c.in_ok-found.ensures.exact m told ∙ ap Ok c.in-Some.is) in
    let read = c.in_ok-found.ensures.counted m told in
    omega (arith, all, here, read)

pub returns-in_err-found-clause-exact : goal.returns-in_err-found-clause-exact
returns-in_err-found-clause-exact g t c = λ m e.
    let p = err_from_is_err_and c.from_residual-in_err-found.result c.from_residual-in_err-found.ensures.1 in
    rw (← c.loop-i.invariant.goes_on m e, p.1, p.2)
    (refused_here (search_below c.args.site.now m c.args.from c.args.end (c.args.level - 1) false) (λ k. k) (entry_at ino_form (area_of c.in_ok-block.block.bytes)) c.count_of-i-end.result c.loop-i.i c.child_in-child.result c.loop-i-test.true c.child_in-child.ensures c.in_err-found.field-0.0
    (c.in_err-found.ensures.exact m (c.loop-i.invariant.reading.same ∙ e)))

pub loop-i-preserved : goal.loop-i-preserved
loop-i-preserved g t c =
    record {
      goes_on = λ m e. sym (none_here (search_below c.args.site.now m c.args.from c.args.end (c.args.level - 1) false) (λ k. k) (entry_at ino_form (area_of c.in_ok-block.block.bytes)) c.count_of-i-end.result c.loop-i.i c.child_in-child.result c.loop-i-test.true c.child_in-child.ensures (c.in_ok-found.ensures.exact m (c.loop-i.invariant.reading.same ∙ e) ∙ ap Ok c.in_default.is)) ∙ c.loop-i.invariant.goes_on m e;
      counted = λ m e. (
          let told = c.loop-i.invariant.reading.same ∙ e in
          let all = c.loop-i.invariant.counted m e in
          let here = none_reads (search_below c.args.site.now m c.args.from c.args.end (c.args.level - 1) false) (reads_below c.args.site.now m c.args.from c.args.end (c.args.level - 1)) (entry_at ino_form (area_of c.in_ok-block.block.bytes)) c.count_of-i-end.result c.loop-i.i c.child_in-child.result c.loop-i-test.true c.child_in-child.ensures (c.in_ok-found.ensures.exact m told ∙ ap Ok c.in_default.is) in
          let read = c.in_ok-found.ensures.counted m told in
          omega (arith, all, here, read));
      reading = reads_on g.B.Blocks g.met.B.Blocks.follows_trans c.args.blocks.now c.loop-i.blocks c.search_node.new.blocks c.loop-i.invariant.reading c.search_node.ensures.reading;
      calm = c.in_ok-found.ensures.cause ∙ c.loop-i.invariant.calm;
      room = c.loop-i.invariant.room;
      inside = c.loop-i.invariant.inside;
    }
