-- What stands in a list, and what is found in it.
use Rattle.std.specs.Prelude.{Bool, true, false, List, [], ◌∷◌, ◌++◌, filter, find, reverse, Option, Some, None, ◌≡◌, ◌⊎◌, refl}
use Rattle.std.specs.Option.{option_or}
use Rattle.std.proofs.Common.{sym, ap, subst, ◌∙◌, cond, inl, inr}
use Rattle.std.proofs.lemmas.Bool.{true≢false}
use Rattle.std.proofs.lemmas.List.{reverse-append}

module _ {R : Type 0} where
  abbrev pub Stands : R → List R → Type 0
  Stands r [] = ⊥
  Stands r (s ∷ ss) = (s ≡ r) ⊎ Stands r ss

  pub kept : (test : R → Bool) (rs : List R) (r : R) → Stands r (filter test rs) → Stands r rs × (test r ≡ true)
  kept test [] r c = absurd c
  kept test (s ∷ ss) r c = (elim (test s) as (λ b. test s ≡ b → Stands r (cond b (s ∷ filter test ss) (filter test ss)) → Stands r (s ∷ ss) × (test r ≡ true)) [
    | true ↦ λ h d. elim d [
      | inl same ↦ (inl same, ap test (sym same) ∙ h)
      | inr later ↦ let on = kept test ss r later in (inr on.0, on.1)
    ]
    | false ↦ λ h d. let on = kept test ss r d in (inr on.0, on.1)
  ]) refl c

  pub stays : (test : R → Bool) (rs : List R) (r : R) → Stands r rs → test r ≡ true → Stands r (filter test rs)
  stays test [] r c p = absurd c
  stays test (s ∷ ss) r c p = (elim (test s) as (λ b. test s ≡ b → Stands r (cond b (s ∷ filter test ss) (filter test ss))) [
    | true ↦ λ h. elim c [ inl same ↦ inl same | inr later ↦ inr (stays test ss r later p) ]
    | false ↦ λ h. elim c [
      | inl same ↦ absurd (true≢false (sym p ∙ ap test (sym same) ∙ h))
      | inr later ↦ stays test ss r later p
    ]
  ]) refl

  out_of : (x y : R) → ◌≡◌ {A = Option R} (Some x) (Some y) → x ≡ y
  out_of x y e = ap (of x) e
    where
      of : R → Option R → R
      of d None = d
      of d (Some z) = z

  pub nothing : (x : R) → ◌≡◌ {A = Option R} None (Some x) → ⊥
  nothing x e = true≢false (sym (ap is e))
    where
      is : Option R → Bool
      is None = false
      is (Some y) = true

  pub some_is : (x y : R) → ◌≡◌ {A = Option R} (Some x) (Some y) → x ≡ y
  some_is x y e = out_of x y e

  pub found : (test : R → Bool) (rs : List R) (r : R) → find test rs ≡ Some r → Stands r rs × (test r ≡ true)
  found test [] r h = absurd (nothing r h)
  found test (s ∷ ss) r h = (elim (test s) as (λ b. test s ≡ b → cond b (Some s) (find test ss) ≡ Some r → Stands r (s ∷ ss) × (test r ≡ true)) [
    | true ↦ λ p e. let same : s ≡ r = out_of s r e in (inl same, ap test (sym same) ∙ p)
    | false ↦ λ p e. let on = found test ss r e in (inr on.0, on.1)
  ]) refl h

  pub none_found : (test : R → Bool) (rs : List R) → ((r : R) → Stands r rs → test r ≡ false) → find test rs ≡ None
  none_found test [] h = refl
  none_found test (r ∷ rs) h = rw (h r (inl refl)) (none_found test rs (λ x c. h x (inr c)))

  -- the first that passes isn't behind one that does
  pub some_found : (test : R → Bool) (rs : List R) (r : R) → Stands r rs → test r ≡ true → (s : R) × (find test rs ≡ Some s)
  some_found test [] r c p = absurd c
  some_found test (x ∷ xs) r c p = elim (test x) as (λ b. test x ≡ b → (s : R) × (cond b (Some x) (find test xs) ≡ Some s)) [
    | true ↦ λ e. (x, refl)
    | false ↦ λ e. elim c [
      | inl same ↦ absurd (true≢false (sym p ∙ ap test (sym same) ∙ e))
      | inr later ↦ some_found test xs r later p
    ]
  ] refl

  in_both : (xs ys : List R) (r : R) → Stands r (xs ++ ys) → Stands r xs ⊎ Stands r ys
  in_both [] ys r c = inr c
  in_both (x ∷ xs) ys r c = elim c [
    | inl same ↦ inl (inl same)
    | inr later ↦ elim (in_both xs ys r later) [ inl here ↦ inl (inr here) | inr there ↦ inr there ]
  ]

  pub in_left : (xs ys : List R) (s : R) → Stands s xs → Stands s (xs ++ ys)
  in_left [] ys s c = absurd c
  in_left (x ∷ xs) ys s c = elim c [ inl same ↦ inl same | inr later ↦ inr (in_left xs ys s later) ]

  pub in_right : (xs ys : List R) (s : R) → Stands s ys → Stands s (xs ++ ys)
  in_right [] ys s c = c
  in_right (x ∷ xs) ys s c = inr (in_right xs ys s c)

  pub in_either : (xs ys : List R) (r : R) → Stands r (xs ++ ys) → Stands r xs ⊎ Stands r ys
  in_either xs ys r c = in_both xs ys r c

  pub reversed : (rs : List R) (r : R) → Stands r (reverse rs) → Stands r rs
  reversed [] r c = c
  reversed (s ∷ ss) r c = elim (in_both (reverse ss) (s ∷ []) r (subst (Stands r) (reverse-append (s ∷ []) ss) c)) [
    | inl later ↦ inr (reversed ss r later)
    | inr here ↦ elim here [ inl same ↦ inl same | inr none ↦ absurd none ]
  ]

  pub find_both : (test : R → Bool) (xs ys : List R) → find test (xs ++ ys) ≡ option_or (find test xs) (find test ys)
  find_both test [] ys = refl
  find_both test (x ∷ xs) ys = (elim (test x) as (λ b. cond b (Some x) (find test (xs ++ ys)) ≡ option_or (cond b (Some x) (find test xs)) (find test ys)) [
    | true ↦ refl
    | false ↦ find_both test xs ys
  ])
