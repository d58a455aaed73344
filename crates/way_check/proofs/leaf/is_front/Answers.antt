use Rattle.std.proofs.Common.{◌-◌, sym, ap, ◌∙◌, ℕ, List}
use Rattle.list_edit.specs.Edits.{comes_before}
use Rattle.way_check.proofs.LeafLemmas.{front_none, front_one}
use Rattle.way_check.proofs.leaf.is_front.Goals as goal

pub returns-then-at-eq0 : goal.returns-then-at-eq0
returns-then-at-eq0 g c = λ yes. front_none g.K.RecKind.form c.args.rec.now c.args.block.now.bytes c.args.at c.if-at-eq0.true

pub returns : goal.returns
returns g c = λ yes.
    let form = g.K.RecKind.form in
    front_one form c.args.rec.now c.args.block.now.bytes c.args.at
    (sym (ap (comes_before form c.args.rec.now) (c.record_at-other.ensures ∙ ap (λ (area : List ℕ). form.record_at area (c.args.at - 1)) c.data_area.ensures.shows)) ∙ (sym c.does_come_before.ensures ∙ yes))
