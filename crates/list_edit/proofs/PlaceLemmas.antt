-- An edited list by the place of the edit.
use Rattle.std.proofs.Common.{◌≡◌, ◌≢◌, zero, suc, Bool, true, false, List, [], ◌∷◌, length, refl, ap, arith, Ok, Err}
use Rattle.std.specs.Prelude.{◌||◌, not, if◌then◌else◌, slice_set}
use Rattle.std.specs.List.{insert, remove, list_any}
use Rattle.sblock.specs.Form.{Form}
use Rattle.list_edit.specs.Edits.{comes_before, is_one, has_key, bars, bars_beside, inserted, removed, changed, edited}
use Rattle.list_edit.specs.Places.{leading}
use Rattle.list_edit.specs.declared.edits.Edit.TheVariants.{Insert, Remove, Change}
use Rattle.list_edit.specs.declared.fault.ListFault.TheVariants.{Missing, Overlap}

-- where none passes, the place is the list's length, and the other way round
module _ {A : Type 0} (test : A → Bool) where
  pub none_there : (xs : List A) → leading (λ s. not (test s)) xs ≡ length xs → list_any test xs ≡ false
  unfolding leading
  none_there [] e = refl
  none_there (x ∷ xs) e = (elim (test x) as (λ b. (if not b then suc (leading (λ s. not (test s)) xs) else zero) ≡ suc (length xs) → (b || list_any test xs) ≡ false) [
    | true ↦ λ h. absurd (omega (arith, h))
    | false ↦ λ h. none_there xs (omega (arith, h))
  ]) e

  pub some_there : (xs : List A) → leading (λ s. not (test s)) xs ≢ length xs → list_any test xs ≡ true
  unfolding leading
  some_there [] e = absurd (e refl)
  some_there (x ∷ xs) e = (elim (test x) as (λ b. (if not b then suc (leading (λ s. not (test s)) xs) else zero) ≢ suc (length xs) → (b || list_any test xs) ≡ true) [
    | true ↦ λ h. refl
    | false ↦ λ h. some_there xs (λ same. h (ap suc same))
  ]) e

module _ {R K : Type 0} (form : Form R K) (r : R) where
  pub put_at : (xs : List R) → insert xs (leading (comes_before form r) xs) r ≡ inserted form r xs
  unfolding inserted leading
  put_at [] = refl
  put_at (s ∷ ss) = elim (comes_before form r s) as (λ b. insert (s ∷ ss) (if b then suc (leading (comes_before form r) ss) else zero) r ≡ (if b then s ∷ inserted form r ss else r ∷ s ∷ ss)) [
    | true ↦ ap (λ (ys : List R). s ∷ ys) (put_at ss)
    | false ↦ refl
  ]

  pub taken_at : (xs : List R) → remove xs (leading (λ s. not (is_one form r s)) xs) ≡ removed form r xs
  unfolding removed leading
  taken_at [] = refl
  taken_at (s ∷ ss) = elim (is_one form r s) as (λ b. remove (s ∷ ss) (if not b then suc (leading (λ q. not (is_one form r q)) ss) else zero) ≡ (if b then ss else s ∷ removed form r ss)) [
    | true ↦ refl
    | false ↦ ap (λ (ys : List R). s ∷ ys) (taken_at ss)
  ]

  pub set_at : (xs : List R) → slice_set xs (leading (λ s. not (has_key form r s)) xs) r ≡ changed form r xs
  unfolding changed leading
  set_at [] = refl
  set_at (s ∷ ss) = elim (has_key form r s) as (λ b. slice_set (s ∷ ss) (if not b then suc (leading (λ q. not (has_key form r q)) ss) else zero) r ≡ (if b then r ∷ ss else s ∷ changed form r ss)) [
    | true ↦ refl
    | false ↦ ap (λ (ys : List R). s ∷ ys) (set_at ss)
  ]

  -- ---- the answers

  pub in_the_way : (xs : List R) → list_any (bars form r) xs ≡ true → edited form Insert r xs ≡ Err Overlap
  in_the_way xs h = rw h refl

  pub is_put : (xs ys : List R) → list_any (bars form r) xs ≡ false → ys ≡ inserted form r xs → edited form Insert r xs ≡ Ok ys
  is_put xs ys h e = rw (h, e) refl

  pub not_there : (xs : List R) → list_any (is_one form r) xs ≡ false → edited form Remove r xs ≡ Err Missing
  not_there xs h = rw h refl

  pub is_taken : (xs ys : List R) → list_any (is_one form r) xs ≡ true → ys ≡ removed form r xs → edited form Remove r xs ≡ Ok ys
  is_taken xs ys h e = rw (h, e) refl

  pub no_key : (xs : List R) → list_any (has_key form r) xs ≡ false → edited form Change r xs ≡ Err Missing
  no_key xs h = rw h refl

  pub in_its_way : (xs : List R) → list_any (has_key form r) xs ≡ true → list_any (bars_beside form r) xs ≡ true → edited form Change r xs ≡ Err Overlap
  in_its_way xs h k = rw (h, k) refl

  pub is_changed : (xs ys : List R) → list_any (has_key form r) xs ≡ true → list_any (bars_beside form r) xs ≡ false → ys ≡ changed form r xs → edited form Change r xs ≡ Ok ys
  is_changed xs ys h k e = rw (h, k, e) refl
