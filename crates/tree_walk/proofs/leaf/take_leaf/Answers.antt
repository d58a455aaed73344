use Rattle.std.proofs.Common.{◌≡◌, refl, arith, ◌∙◌}
use Rattle.sblock.specs.Area.{area_of}
use Rattle.sblock.specs.Blocks.{numrecs, records_of}
use Rattle.sblock.specs.Lists.{items_from}
use Rattle.sblock.proofs.ListLemmas.{one_more_item}
use Rattle.sblock.proofs.SpanLemmas.{record_taken}
use Rattle.sblock.specs.Spans.{span_of}
use Rattle.tree_walk.specs.Trails.{trail_of}
use Rattle.tree_walk.proofs.LeafLemmas.{in_range, no_recs, pushed}
use Rattle.tree_walk.proofs.leaf.take_leaf.Goals as goal

pub loop-i-init : goal.loop-i-init
unfolding span_of
loop-i-init g c = record { trail = no_recs (trail_of c.args.seen.now); span = refl; blocks = refl }

pub span_in_range-requires : goal.span_in_range-requires
span_in_range-requires g c =
    let form = g.K.RecKind.form in
    let bytes = c.args.block.now.bytes in
    let here : c.record_at-rec.result ≡ form.record_at (area_of bytes) c.loop-i.i = rw (c.data_area-area.ensures.shows) at c.record_at-rec.ensures in
    rw here (in_range form c.args.bounds.now bytes c.loop-i.i c.requires.inside (omega (arith, c.loop-i-test.true, c.count_of-i-end.ensures)))

pub loop-i-preserved : goal.loop-i-preserved
loop-i-preserved g c =
    let form = g.K.RecKind.form in
    let bytes = c.args.block.now.bytes in
    let r = c.record_at-rec.result in
    let rs = items_from (form.record_at (area_of bytes)) c.loop-i.i 0 in
    let here : r ≡ form.record_at (area_of bytes) c.loop-i.i = rw (c.data_area-area.ensures.shows) at c.record_at-rec.ensures in
    let more = one_more_item (form.record_at (area_of bytes)) c.loop-i.i in
    record {
      trail = rw (more, ← here) (pushed (trail_of c.loop-i.seen) (trail_of c.args.seen.now) rs c.push.new.self.items r c.loop-i.invariant.trail c.in_ok-push.ensures.items);
      span = rw (more, record_taken form g.met.K.RecKind.lawful rs (form.record_at (area_of bytes) c.loop-i.i)) (c.join_spans-span.ensures ∙ rw (c.loop-i.invariant.span, c.span_in_range.ensures, here) refl);
      blocks = c.loop-i.invariant.blocks;
    }

pub returns-clause-span : goal.returns-clause-span
unfolding records_of
returns-clause-span g c =
    let all : c.loop-i.i ≡ numrecs c.args.block.now.bytes = omega (arith, c.loop-i-test.false, c.loop-i.auto.i-end, c.count_of-i-end.ensures) in
    rw all at c.loop-i.invariant.span

pub returns-clause-trail : goal.returns-clause-trail
unfolding records_of
returns-clause-trail g c =
    let all : c.loop-i.i ≡ numrecs c.args.block.now.bytes = omega (arith, c.loop-i-test.false, c.loop-i.auto.i-end, c.count_of-i-end.ensures) in
    rw all at c.loop-i.invariant.trail
