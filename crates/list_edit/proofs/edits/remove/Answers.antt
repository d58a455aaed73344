use Rattle.std.proofs.Common.{◌≡◌, false, true, ℕ, List, subst, ◌∙◌, ap, arith}
use Rattle.std.specs.Prelude.{not}
use Rattle.std.specs.List.{remove, list_any}
use Rattle.list_edit.specs.Edits.{is_one}
use Rattle.list_edit.specs.Places.{leading}
use Rattle.list_edit.proofs.PlaceLemmas.{none_there, some_there, taken_at, not_there, is_taken}
use Rattle.list_edit.proofs.edits.remove.Goals as goal

pub returns-then-place-len-clause-exact : goal.returns-then-place-len-clause-exact
returns-then-place-len-clause-exact g c =
    let form = g.K.RecKind.form in
    let r = c.args.rec.now in
    let none = none_there (is_one form r) c.deref.result.now (omega (arith, c.place_of-place.ensures.exact, c.len.ensures, c.if-place-len.true, c.deref.ensures.len)) in
    not_there form r c.args.list.now.items (subst (λ (ys : List g.row.K-Rec.Denot). list_any (is_one form r) ys ≡ false) c.deref.ensures.value none)

pub returns-clause-exact : goal.returns-clause-exact
returns-clause-exact g c =
    let form = g.K.RecKind.form in
    let r = c.args.rec.now in
    let xs = c.args.list.now.items in
    let exact = c.place_of-place.ensures.exact in
    let some = some_there (is_one form r) c.deref.result.now (λ e. c.if-place-len.false (omega (arith, exact, e, c.len.ensures, c.deref.ensures.len))) in
    let there = subst (λ (ys : List g.row.K-Rec.Denot). list_any (is_one form r) ys ≡ true) c.deref.ensures.value some in
    let place = exact ∙ ap (leading (λ s. not (is_one form r s))) c.deref.ensures.value in
    is_taken form r xs c.remove.new.self.items there (c.remove.ensures.items ∙ ap (λ (i : ℕ). remove xs i) place ∙ taken_at form r xs)
