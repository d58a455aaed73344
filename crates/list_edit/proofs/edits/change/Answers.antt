use Rattle.std.proofs.Common.{◌≡◌, false, true, ℕ, List, sym, subst, ◌∙◌, ap, arith}
use Rattle.std.specs.Prelude.{not, slice_set}
use Rattle.std.specs.List.{list_any}
use Rattle.list_edit.specs.Edits.{has_key, bars_beside}
use Rattle.list_edit.specs.Places.{leading}
use Rattle.list_edit.proofs.PlaceLemmas.{none_there, some_there, set_at, no_key, in_its_way, is_changed}
use Rattle.list_edit.proofs.edits.change.Goals as goal

pub returns-then-place-len-clause-exact : goal.returns-then-place-len-clause-exact
returns-then-place-len-clause-exact g c =
    let form = g.K.RecKind.form in
    let r = c.args.rec.now in
    let none = none_there (has_key form r) c.deref.result.now (omega (arith, c.place_with-place.ensures.exact, c.len.ensures, c.if-place-len.true, c.deref.ensures.len)) in
    no_key form r c.args.list.now.items (subst (λ (ys : List g.row.K-Rec.Denot). list_any (has_key form r) ys ≡ false) c.deref.ensures.value none)

pub returns-then-is_barred_beside-clause-exact : goal.returns-then-is_barred_beside-clause-exact
returns-then-is_barred_beside-clause-exact g c =
    let form = g.K.RecKind.form in
    let r = c.args.rec.now in
    let some = some_there (has_key form r) c.deref.result.now (λ e. c.if-place-len.false (omega (arith, c.place_with-place.ensures.exact, e, c.len.ensures, c.deref.ensures.len))) in
    let there = subst (λ (ys : List g.row.K-Rec.Denot). list_any (has_key form r) ys ≡ true) c.deref.ensures.value some in
    let barred = subst (λ (ys : List g.row.K-Rec.Denot). list_any (bars_beside form r) ys ≡ true) c.deref-2.ensures.value (sym c.is_barred_beside.ensures ∙ c.if-is_barred_beside.true) in
    in_its_way form r c.args.list.now.items there barred

pub returns-clause-exact : goal.returns-clause-exact
returns-clause-exact g c =
    let form = g.K.RecKind.form in
    let r = c.args.rec.now in
    let xs = c.args.list.now.items in
    let exact = c.place_with-place.ensures.exact in
    let some = some_there (has_key form r) c.deref.result.now (λ e. c.if-place-len.false (omega (arith, exact, e, c.len.ensures, c.deref.ensures.len))) in
    let there = subst (λ (ys : List g.row.K-Rec.Denot). list_any (has_key form r) ys ≡ true) c.deref.ensures.value some in
    let free = subst (λ (ys : List g.row.K-Rec.Denot). list_any (bars_beside form r) ys ≡ false) c.deref-2.ensures.value (sym c.is_barred_beside.ensures ∙ c.if-is_barred_beside.false) in
    let place = exact ∙ ap (leading (λ s. not (has_key form r s))) c.deref.ensures.value in
    is_changed form r xs (slice_set xs c.place_with-place.result r) there free (ap (λ (i : ℕ). slice_set xs i r) place ∙ set_at form r xs)
