-- Rising records in three parts, and a key that reaches into the second: what it finds, and what lies above it.
use Rattle.std.proofs.Common.{◌≡◌, Bool, true, false, List, [], ◌∷◌, ◌++◌, None, refl, sym, ◌∙◌, ap, inl, inr}
use Rattle.std.specs.Prelude.{filter}
use Rattle.std.proofs.lemmas.Bool.{false≢true}
use Rattle.sblock.specs.Blocks.{IsRising}
use Rattle.sblock.specs.Form.{Form, IsLawful, same_key}
use Rattle.sblock.specs.Lists.{Each}
use Rattle.tree_find.specs.Find.{record_with}
use Rattle.tree_find.proofs.Facts.{is_either}
use Rattle.tree_find.proofs.RecordLemmas.{later_differs, sooner_differs, before_all}

module _ {R K : Type 0} (form : Form R K) (law : IsLawful form) where
  -- a record comes before the key, or behind it
  abbrev pub is_passed : K → R → Bool
  is_passed key r = form.is_before (form.key_of r) key

  abbrev pub is_above : K → R → Bool
  is_above key r = form.is_before key (form.key_of r)

  -- the first of these records isn't above the key, and there is one
  abbrev pub Begins : K → List R → Type 0
  Begins key [] = ⊥
  Begins key (r ∷ rs) = is_above key r ≡ false

  -- the first of these records is above the key, if there is one
  abbrev pub LiesAbove : K → List R → Type 0
  LiesAbove key [] = Unit {0}
  LiesAbove key (r ∷ rs) = is_above key r ≡ true

  pub rising_rest : (xs ys : List R) → IsRising form (xs ++ ys) → IsRising form ys
  rising_rest [] ys h = h
  rising_rest (x ∷ xs) ys h = rising_rest xs ys h.1

  pub rising_front : (xs ys : List R) → IsRising form (xs ++ ys) → IsRising form xs
  rising_front [] ys h = tt
  rising_front (x ∷ []) ys h = (tt, tt)
  rising_front (x ∷ z ∷ xs) ys h = (h.0, rising_front (z ∷ xs) ys h.1)

  -- what stands in front of a record comes before it
  comes_first : (x : R) (xs : List R) (b : R) (ys : List R) → IsRising form (x ∷ (xs ++ b ∷ ys)) → form.is_before (form.key_of x) (form.key_of b) ≡ true
  comes_first x [] b ys h = h.0
  comes_first x (z ∷ xs) b ys h = law.along (form.key_of x) (form.key_of z) (form.key_of b) h.0 (comes_first z xs b ys h.1)

  front_passed : (key : K) (xs : List R) (b : R) (ys : List R) → IsRising form (xs ++ b ∷ ys) → is_above key b ≡ false → Each (is_passed key) xs
  front_passed key [] b ys h f = tt
  front_passed key (x ∷ xs) b ys h f = (before_all form law (form.key_of x) (form.key_of b) key (comes_first x xs b ys h) f, front_passed key xs b ys h.1 f)

  pub all_passed : (key : K) (xs ys zs : List R) → IsRising form (xs ++ (ys ++ zs)) → Begins key ys → Each (is_passed key) xs
  all_passed key xs [] zs h b = absurd b
  all_passed key xs (y ∷ ys) zs h b = front_passed key xs y (ys ++ zs) h b

  pub all_above : (key : K) (xs : List R) → IsRising form xs → LiesAbove key xs → Each (is_above key) xs
  all_above key [] h a = tt
  all_above key (x ∷ []) h a = (a, tt)
  all_above key (x ∷ z ∷ xs) h a = (a, all_above key (z ∷ xs) h.1 (law.along key (form.key_of x) (form.key_of z) a h.0))

  -- a record that is passed isn't above
  pub passed_not_above : (key : K) (r : R) → is_passed key r ≡ true → is_above key r ≡ false
  passed_not_above key r h =
      elim (is_either (is_above key r)) [
        | inl t ↦ absurd (false≢true (sym (law.strict key) ∙ law.along key (form.key_of r) key t h))
        | inr f ↦ f
      ]

  find_behind : (key : K) (xs ys : List R) → Each (is_passed key) xs → record_with form key (xs ++ ys) ≡ record_with form key ys
  find_behind key [] ys h = refl
  find_behind key (x ∷ xs) ys h =
      let f = sooner_differs form law (form.key_of x) key h.0 in
      rw f (find_behind key xs ys h.1)

  pub find_none : (key : K) (xs : List R) → Each (is_above key) xs → record_with form key xs ≡ None
  find_none key [] h = refl
  find_none key (x ∷ xs) h =
      let f = later_differs form law (form.key_of x) key h.0 in
      rw f (find_none key xs h.1)

  find_ahead : (key : K) (xs ys : List R) → Each (is_above key) ys → record_with form key (xs ++ ys) ≡ record_with form key xs
  find_ahead key [] ys h = find_none key ys h
  find_ahead key (x ∷ xs) ys h =
      elim (is_either (same_key form (form.key_of x) key)) [
        | inl t ↦ rw t refl
        | inr f ↦ rw f (find_ahead key xs ys h)
      ]

  -- the record with an equal key lies in the part that the key reaches into
  pub found_within : (key : K) (xs ys zs : List R) → IsRising form (xs ++ (ys ++ zs)) → Begins key ys → LiesAbove key zs → record_with form key (xs ++ (ys ++ zs)) ≡ record_with form key ys
  found_within key xs ys zs h b a =
      find_behind key xs (ys ++ zs) (all_passed key xs ys zs h b)
      ∙ find_ahead key ys zs (all_above key zs (rising_rest ys zs (rising_rest xs (ys ++ zs) h)) a)

  filter_behind : (key : K) (xs ys : List R) → Each (is_passed key) xs → filter (is_above key) (xs ++ ys) ≡ filter (is_above key) ys
  filter_behind key [] ys h = refl
  filter_behind key (x ∷ xs) ys h =
      let f = passed_not_above key x h.0 in
      rw f (filter_behind key xs ys h.1)

  pub filter_all : (key : K) (xs : List R) → Each (is_above key) xs → filter (is_above key) xs ≡ xs
  filter_all key [] h = refl
  filter_all key (x ∷ xs) h = rw (h.0) (ap (λ rest. x ∷ rest) (filter_all key xs h.1))

  filter_ahead : (key : K) (xs ys : List R) → Each (is_above key) ys → filter (is_above key) (xs ++ ys) ≡ filter (is_above key) xs ++ ys
  filter_ahead key [] ys h = filter_all key ys h
  filter_ahead key (x ∷ xs) ys h =
      elim (is_either (is_above key x)) [
        | inl t ↦ rw t (ap (λ rest. x ∷ rest) (filter_ahead key xs ys h))
        | inr f ↦ rw f (filter_ahead key xs ys h)
      ]

  -- the records above it are those of that part, and all behind it
  pub above_within : (key : K) (xs ys zs : List R) → IsRising form (xs ++ (ys ++ zs)) → Begins key ys → LiesAbove key zs → filter (is_above key) (xs ++ (ys ++ zs)) ≡ filter (is_above key) ys ++ zs
  above_within key xs ys zs h b a =
      filter_behind key xs (ys ++ zs) (all_passed key xs ys zs h b)
      ∙ filter_ahead key ys zs (all_above key zs (rising_rest ys zs (rising_rest xs (ys ++ zs) h)) a)
