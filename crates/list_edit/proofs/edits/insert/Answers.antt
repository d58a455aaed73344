use Rattle.std.proofs.Common.{◌≡◌, false, ℕ, List, sym, subst, ◌∙◌, ap}
use Rattle.std.specs.List.{insert, list_any}
use Rattle.list_edit.specs.Edits.{bars, comes_before}
use Rattle.list_edit.specs.Places.{leading}
use Rattle.list_edit.proofs.PlaceLemmas.{put_at, is_put}
use Rattle.list_edit.proofs.edits.insert.Goals as goal

pub returns-clause-exact : goal.returns-clause-exact
returns-clause-exact g c =
    let form = g.K.RecKind.form in
    let r = c.args.rec.now in
    let xs = c.args.list.now.items in
    let free = subst (λ (ys : List g.row.K-Rec.Denot). list_any (bars form r) ys ≡ false) c.deref.ensures.value (sym c.is_barred.ensures ∙ c.if-is_barred.false) in
    let place = c.place_for-place.ensures.exact ∙ ap (leading (comes_before form r)) c.deref-2.ensures.value in
    is_put form r xs c.insert.new.self.items free (c.in_ok-insert.ensures.items ∙ ap (λ (i : ℕ). insert xs i r) place ∙ put_at form r xs)
