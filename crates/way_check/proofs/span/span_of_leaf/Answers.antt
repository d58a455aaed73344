use Rattle.std.proofs.Common.{◌≡◌, ℕ, List, Option, Some, refl, sym, ap, ◌∙◌, arith}
use Rattle.sblock.specs.Area.{area_of}
use Rattle.sblock.specs.Blocks.{numrecs, records_of}
use Rattle.sblock.specs.Lists.{items_from}
use Rattle.sblock.specs.Spans.{span_of, span_of_one, join}
use Rattle.sblock.specs.declared.spans.Span.{Span}
use Rattle.way_check.proofs.NodeLemmas.{leaf_taken}
use Rattle.way_check.proofs.span.span_of_leaf.Goals as goal

pub loop-i-init : goal.loop-i-init
unfolding span_of
loop-i-init g c = refl

pub loop-i-preserved : goal.loop-i-preserved
loop-i-preserved g c =
    let form = g.K.RecKind.form in
    let area = area_of c.args.block.now.bytes in
    let i = c.loop-i.i in
    let rec_is : c.record_at-rec.result ≡ form.record_at area i = c.record_at-rec.ensures ∙ ap (λ (a : List ℕ). form.record_at a i) c.data_area-area.ensures.shows in
    c.join_spans-span.ensures
    ∙ (ap (λ (s : Option (Span g.row.K-Key.Denot)). join form s (Some c.span_of_record.result)) c.loop-i.invariant
    ∙ (ap (λ (s : Span g.row.K-Key.Denot). join form (span_of form (items_from (form.record_at area) i 0)) (Some s)) (c.span_of_record.ensures ∙ ap (span_of_one form) rec_is)
    ∙ sym (leaf_taken form g.met.K.RecKind.lawful area i)))

pub returns : goal.returns
unfolding records_of
returns g c = λ s h.
    let form = g.K.RecKind.form in
    let area = area_of c.args.block.now.bytes in
    let all : c.loop-i.i ≡ numrecs c.args.block.now.bytes = omega (arith, c.loop-i-test.false) in
    sym (c.loop-i.invariant ∙ ap (λ (n : ℕ). span_of form (items_from (form.record_at area) n 0)) all) ∙ h
