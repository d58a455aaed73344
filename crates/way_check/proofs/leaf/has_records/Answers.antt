use Rattle.std.proofs.Common.{◌≡◌, ◌<◌, ℕ, List, sym, ap, ◌∙◌, arith}
use Rattle.place_cells.specs.Cells.{item_at}
use Rattle.place_cells.proofs.CellLemmas.{all_more}
use Rattle.place_turns.specs.Edits.{cut_for}
use Rattle.way_check.specs.Checks.{record_in}
use Rattle.way_check.proofs.leaf.has_records.Goals as goal

pub loop-i-preserved : goal.loop-i-preserved
loop-i-preserved g c =
    let form = g.K.RecKind.form in
    let a = c.args in
    let i = c.loop-i.i in
    let item = item_at (record_in form a.old.now.bytes) (cut_for form a.how a.rec.now a.at) in
    let found : record_in form a.new.now.bytes i ≡ c.record_at-found.result = sym (c.record_at-found.ensures ∙ ap (λ (area : List ℕ). form.record_at area i) c.data_area.ensures.shows) in
    let same = (g.met.K.RecKind.lawful.same c.record_at-found.result c.edited_at.result).0 (sym c.is_same.ensures ∙ c.if-not-is_same.false) in
    all_more (λ k. record_in form a.new.now.bytes k ≡ item k) (λ k. record_in form a.new.now.bytes k ≡ item k) i (found ∙ (same ∙ c.edited_at.ensures)) c.loop-i.invariant (λ k lt old. old)

pub returns : goal.returns
returns g c = λ yes k lt. c.loop-i.invariant k (omega (arith, lt, c.loop-i-test.false))
