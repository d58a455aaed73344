use Rattle.std.proofs.Common.{take, sym, ◌∙◌, arith}
use Rattle.std.proofs.lemmas.List.{take_more}
use Rattle.sblock.proofs.SpanLemmas.{subtree_taken}
use Rattle.sblock.proofs.spans.span_of_subtrees.Goals as goal

pub loop-below-preserved : goal.loop-below-preserved
loop-below-preserved g c =
    let form = g.K.RecKind.form in
    let spans = c.args.spans.now in
    let i = c.loop-below.below-index in
    let more = subtree_taken form g.met.K.RecKind.lawful (take i spans) c.below-item.result in
    rw (take_more spans i c.below-item.result (omega arith), ← c.below-item.is) (c.join_spans-span.ensures ∙ rw (c.loop-below.invariant) (sym more))
