use Rattle.std.proofs.Common.{take, sym, ◌∙◌, arith}
use Rattle.std.proofs.lemmas.List.{take_more}
use Rattle.sblock.proofs.SpanLemmas.{record_taken}
use Rattle.sblock.proofs.spans.span_of_records.Goals as goal

pub loop-rec-preserved : goal.loop-rec-preserved
loop-rec-preserved g c =
    let form = g.K.RecKind.form in
    let recs = c.args.recs.now in
    let i = c.loop-rec.rec-index in
    let more = record_taken form g.met.K.RecKind.lawful (take i recs) c.rec-item.result in
    rw (take_more recs i c.rec-item.result (omega arith), ← c.rec-item.is) (c.join_spans-span.ensures ∙ rw (c.span_of_record.ensures, c.loop-rec.invariant) (sym more))
