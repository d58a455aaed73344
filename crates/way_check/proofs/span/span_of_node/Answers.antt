use Rattle.std.proofs.Common.{◌≡◌, ℕ, List, Option, Some, refl, sym, ap, ◌∙◌, arith}
use Rattle.sblock.specs.Area.{area_of}
use Rattle.sblock.specs.Blocks.{numrecs}
use Rattle.sblock.specs.Lists.{items_from}
use Rattle.sblock.specs.Spans.{span_over, join}
use Rattle.sblock.specs.declared.spans.Span.{Span}
use Rattle.tree_defs.specs.Tree.{entry_at, entries_from}
use Rattle.place_laws.specs.Keys.{spans_in}
use Rattle.way_check.proofs.NodeLemmas.{node_taken}
use Rattle.way_check.proofs.span.span_of_node.Goals as goal

pub loop-i-init : goal.loop-i-init
unfolding span_over
loop-i-init g c = refl

pub loop-i-preserved : goal.loop-i-preserved
loop-i-preserved g c =
    let form = g.K.RecKind.form in
    let area = area_of c.args.block.now.bytes in
    let i = c.loop-i.i in
    let so_far = span_over form (spans_in (items_from (entry_at form area) i 0)) in
    let shows = c.data_area-area.ensures.shows in
    let low : c.key_at.result ≡ form.key_at area i = c.key_at.ensures ∙ ap (λ (a : List ℕ). form.key_at a i) shows in
    let high : c.high_key_at.result ≡ form.high_key_at area i = c.high_key_at.ensures ∙ ap (λ (a : List ℕ). form.high_key_at a i) shows in
    c.join_spans-span.ensures
    ∙ (ap (λ (s : Option (Span g.row.K-Key.Denot)). join form s (Some (record { low = c.key_at.result; high = c.high_key_at.result }))) c.loop-i.invariant
    ∙ (ap (λ (k : g.row.K-Key.Denot). join form so_far (Some (record { low = k; high = c.high_key_at.result }))) low
    ∙ (ap (λ (k : g.row.K-Key.Denot). join form so_far (Some (record { low = form.key_at area i; high = k }))) high
    ∙ sym (node_taken form g.met.K.RecKind.lawful area i))))

pub returns : goal.returns
unfolding entries_from
returns g c = λ level s h.
    let form = g.K.RecKind.form in
    let area = area_of c.args.block.now.bytes in
    let all : c.loop-i.i ≡ numrecs c.args.block.now.bytes = omega (arith, c.loop-i-test.false) in
    sym (c.loop-i.invariant ∙ ap (λ (n : ℕ). span_over form (spans_in (items_from (entry_at form area) n 0))) all) ∙ h
