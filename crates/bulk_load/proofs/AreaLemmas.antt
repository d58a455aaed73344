-- What stands behind a block's header, item by item.
use Rattle.std.proofs.Common.{◌≡◌, ◌≢◌, ℕ, zero, suc, ◌+◌, ◌-◌, ◌<◌, ◌≤◌, true, List, [], ◌∷◌, ◌++◌, Option, length, take, drop, get_or, refl, sym, ap, subst, ◌∙◌, inl, inr, arith, add-one}
use Rattle.std.specs.Prelude.{All, ◌⊎◌}
use Rattle.std.proofs.lemmas.Bool.{cases_lt}
use Rattle.std.proofs.Math.ListN.{drop_of_length-le}
use Rattle.std.proofs.Math.Seq.{drop-cons}
use Rattle.std.proofs.lemmas.List.{take_more, take_all}
use Rattle.std.proofs.lemmas.List.Elements.{All-get_or}
use Rattle.sblock.proofs.ListLemmas.{one_more_item}
use Rattle.sblock.specs.Area.{child_of, with_child}
use Rattle.sblock.specs.Form.{Form}
use Rattle.sblock.specs.Lists.{items_from}
use Rattle.sblock.specs.Spans.{span_of}
use Rattle.sblock.specs.declared.spans.Span.{Span}
use Rattle.bulk_load.specs.Leaf.{empty_area, with_records}
use Rattle.bulk_load.specs.Loaded.{piece, at_level, below, AreKeys, IsEntry, AreEntries, HasRecords, Has, with_span, with_entry, with_entries, area_bytes}
use Rattle.bulk_load.specs.Shapes.{begin, count, first_record}

same_items : {A : Type 0} (f g : ℕ → A) (k i : ℕ) → ((j : ℕ) → i ≤ j → j < i + k → g j ≡ f j) → items_from g k i ≡ items_from f k i
same_items f g zero i h = refl
same_items f g (suc k) i h =
    let e : g i ≡ f i = h i (omega arith) (omega arith) in
    let r : items_from g k (i + 1) ≡ items_from f k (i + 1) = same_items f g k (i + 1) (λ j low high. h j (omega arith) (omega arith)) in
    rw (e, r) refl

-- one record more was written
pub records_more : {R : Type 0} (f g : ℕ → R) (recs : List R) (i most : ℕ) (rec : R) → i < length recs → i < most → ((j : ℕ) → j < most → j ≢ i → g j ≡ f j) → g i ≡ rec → rec ≡ get_or recs i rec
    → items_from f i 0 ≡ take i recs → items_from g (i + 1) 0 ≡ take (i + 1) recs
records_more f g recs i most rec lt room others taken is so_far =
    let same : items_from g i 0 ≡ items_from f i 0 = same_items f g i 0 (λ j low high. others j (omega arith) (omega arith)) in
    let front : items_from g (i + 1) 0 ≡ items_from g i 0 ++ g i ∷ [] = one_more_item g i in
    let last : g i ≡ get_or recs i rec = taken ∙ is in
    front ∙ (ap (λ xs. xs ++ g i ∷ []) (same ∙ so_far) ∙ (ap (λ x. take i recs ++ x ∷ []) last ∙ sym (take_more recs i rec lt)))

pub record_taken : {R : Type 0} (P : R → Type 0) (recs : List R) (i : ℕ) (rec : R) → All P recs → i < length recs → rec ≡ get_or recs i rec → P rec
record_taken P recs i rec all lt is = subst P (sym is) (All-get_or P recs i rec lt all)

module _ {R K : Type 0} (form : Form R K) (list : List R) (claimed : List ℕ) where
  pub entries_are : (level i first n : ℕ) (area : List ℕ) → first ≡ begin form.kind (length list) (suc level) i → n ≡ count form.kind (length list) (suc level) i
      → AreEntries form list claimed level first area n → Has form list claimed (suc level) i area
  entries_are level i first n area e d entries =
      subst (λ (k : ℕ). AreEntries form list claimed level k area (count form.kind (length list) (suc level) i)) e (subst (λ (k : ℕ). AreEntries form list claimed level first area k) d entries)

  pub has_at : (j level i : ℕ) (area : List ℕ) → j ≡ level → Has form list claimed j i area → Has form list claimed level i area
  has_at j level i area e has = subst (λ (k : ℕ). Has form list claimed k i area) e has

  -- one entry more is read
  pub entries_more : (j c n most : ℕ) (old new : List ℕ) → n < most → ((k : ℕ) → k < most → k ≢ n → form.key_at new k ≡ form.key_at old k) → ((k : ℕ) → k < most → k ≢ n → form.high_key_at new k ≡ form.high_key_at old k)
      → ((k : ℕ) → k < most → k ≢ n → child_of form.kind new k ≡ child_of form.kind old k) → IsEntry form list claimed j (c + n) new n → AreEntries form list claimed j c old n → AreEntries form list claimed j c new (n + 1)
  entries_more j c n most old new room low high pointers last before e lt =
      elim (cases_lt e n) [
        | inl under ↦ record {
          child = pointers e (omega (arith, under, room)) (λ same. absurd (omega (arith, under, same))) ∙ (before e under).child;
          keys = subst (λ (k : K). AreKeys form k (form.high_key_at new e) (span_of form (below form list j (c + e)))) (sym (low e (omega (arith, under, room)) (λ same. absurd (omega (arith, under, same)))))
              (subst (λ (k : K). AreKeys form (form.key_at old e) k (span_of form (below form list j (c + e)))) (sym (high e (omega (arith, under, room)) (λ same. absurd (omega (arith, under, same))))) (before e under).keys);
        }
        | inr above ↦ (let same : n ≡ e = omega (arith, above, lt) in subst (λ (k : ℕ). IsEntry form list claimed j (c + k) new k) same last)
      ]

  pub entry_read : (j c n child : ℕ) (new : List ℕ) (span : Option (Span K)) → span ≡ span_of form (below form list j (c + n)) → child ≡ at_level form.kind (length list) claimed j (c + n) → child_of form.kind new n ≡ child
      → AreKeys form (form.key_at new n) (form.high_key_at new n) span → IsEntry form list claimed j (c + n) new n
  entry_read j c n child new span is leads read keys = record {
    child = read ∙ leads;
    keys = subst (λ (s : Option (Span K)). AreKeys form (form.key_at new n) (form.high_key_at new n) s) is keys;
  }

  pub span_at : (j a b : ℕ) (span : Option (Span K)) → a ≡ b → span ≡ span_of form (below form list j a) → span ≡ span_of form (below form list j b)
  span_at j a b span e is = is ∙ ap (λ (x : ℕ). span_of form (below form list j x)) e

  -- ---- each byte

  pub no_entries : (j c : ℕ) (area : List ℕ) → with_entries form list claimed j c 0 area ≡ area
  unfolding with_entries
  no_entries j c area = refl

  one_more_entry : (j c n : ℕ) (area : List ℕ) → with_entry form list claimed j (c + n) (with_entries form list claimed j c n area) n ≡ with_entries form list claimed j c (suc n) area
  unfolding with_entries
  one_more_entry j c n area = refl

  -- one entry more was written
  pub entry_more : (j c n child : ℕ) (area a b : List ℕ) (span : Option (Span K)) → a ≡ with_entries form list claimed j c n area → span ≡ span_of form (below form list j (c + n)) → child ≡ at_level form.kind (length list) claimed j (c + n)
      → b ≡ with_child form.kind (with_span form a n span) n child → b ≡ with_entries form list claimed j c (n + 1) area
  entry_more j c n child area a b span so_far keys leads put =
      let next : suc n ≡ n + 1 = omega arith in
      put ∙ (ap (λ (x : ℕ). with_child form.kind (with_span form a n span) n x) leads
      ∙ (ap (λ (s : Option (Span K)). with_child form.kind (with_span form a n s) n (at_level form.kind (length list) claimed j (c + n))) keys
      ∙ (ap (λ (xs : List ℕ). with_entry form list claimed j (c + n) xs n) so_far ∙ (one_more_entry j c n area ∙ ap (λ (x : ℕ). with_entries form list claimed j c x area) next))))

  pub leaf_told : (i from to : ℕ) (recs : List R) (blank area : List ℕ) → from ≡ first_record form.kind (length list) 0 i → to ≡ first_record form.kind (length list) 0 (i + 1) → recs ≡ piece list from to → blank ≡ empty_area
      → area ≡ with_records form recs 0 blank → area ≡ area_bytes form list claimed 0 i
  unfolding area_bytes
  leaf_told i from to recs blank area first last part none put =
      put ∙ (ap (with_records form recs 0) none ∙ ap (λ (rs : List R). with_records form rs 0 empty_area) (part ∙ (ap (λ (x : ℕ). piece list x to) first ∙ ap (piece list (first_record form.kind (length list) 0 i)) last)))

  pub node_told : (level i first n : ℕ) (blank area : List ℕ) → first ≡ begin form.kind (length list) (suc level) i → n ≡ count form.kind (length list) (suc level) i → blank ≡ empty_area
      → area ≡ with_entries form list claimed level first n blank → area ≡ area_bytes form list claimed (suc level) i
  unfolding area_bytes
  node_told level i first n blank area e d none put =
      put ∙ (ap (with_entries form list claimed level first n) none ∙ (ap (λ (x : ℕ). with_entries form list claimed level x n empty_area) e ∙ ap (λ (x : ℕ). with_entries form list claimed level (begin form.kind (length list) (suc level) i) x empty_area) d))

  pub told_at : (j level i : ℕ) (area : List ℕ) → j ≡ level → area ≡ area_bytes form list claimed j i → area ≡ area_bytes form list claimed level i
  told_at j level i area e told = told ∙ ap (λ (x : ℕ). area_bytes form list claimed x i) e

-- the first record of the rest was put in
pub one_more_put : {R K : Type 0} (form : Form R K) (recs : List R) (i : ℕ) (rec : R) (area newer : List ℕ) → i < length recs → rec ≡ get_or recs i rec → newer ≡ form.with_record area i rec
    → with_records form (drop (i + 1) recs) (i + 1) newer ≡ with_records form (drop i recs) i area
one_more_put {R} form recs i rec area newer lt is put =
    let s : suc i ≡ i + 1 = omega arith in
    let d : drop i recs ≡ rec ∷ drop (suc i) recs = drop-cons recs i rec lt ∙ ap (λ (r : R). r ∷ drop (suc i) recs) (sym is) in
    let e : drop i recs ≡ rec ∷ drop (i + 1) recs = d ∙ ap (λ (k : ℕ). rec ∷ drop k recs) s in
    ap (with_records form (drop (i + 1) recs) (i + 1)) put ∙ sym (ap (λ (rs : List R). with_records form rs i area) e)

-- nothing is left to put in
pub all_put : {R K : Type 0} (form : Form R K) (recs : List R) (i : ℕ) (area : List ℕ) → length recs ≤ i → with_records form (drop i recs) i area ≡ area
all_put {R} form recs i area le = ap (λ (rs : List R). with_records form rs i area) (drop_of_length-le recs {i = i} le)
