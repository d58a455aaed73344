-- The entries of a node one after another, and the records below each.
use Rattle.std.proofs.Common.{◌≡◌, ℕ, zero, suc, ◌+◌, ◌-◌, ◌<◌, true, false, List, [], ◌∷◌, ◌++◌, Option, Some, None, refl, sym, ◌∙◌, ap, inl, inr, arith, append_assoc}
use Rattle.std.proofs.lemmas.Bool.{false≢true, and_parts}
use Rattle.sblock.specs.Form.{Form, IsLawful, same_key}
use Rattle.sblock.specs.Lists.{items_from}
use Rattle.tree_defs.specs.Levels.{over, AllEntries}
use Rattle.sblock.specs.Spans.{join, span_of}
use Rattle.tree_defs.specs.Tree.{Entry, agrees}
use Rattle.sblock.specs.declared.spans.Span.{Span}
use Rattle.tree_find.proofs.Facts.{is_either, fails}
use Rattle.tree_find.proofs.Parting.{Begins, LiesAbove}

pub items_split : {A : Type 0} (item : ℕ → A) (n i j : ℕ) → j < n → items_from item n i ≡ items_from item j i ++ item (i + j) ∷ items_from item (n - j - 1) (i + j + 1)
items_split item zero i j lt = absurd (omega arith)
items_split item (suc n) i zero lt =
    let a : suc n - 0 - 1 ≡ n = omega arith in
    let b : i + 0 ≡ i = omega arith in
    rw (a, b) refl
items_split item (suc n) i (suc j) lt =
    let a : suc n - suc j - 1 ≡ n - j - 1 = omega arith in
    let b : (i + 1) + j ≡ i + suc j = omega arith in
    rw a (ap (λ rest. item i ∷ rest) (rw b at (items_split item n (i + 1) j (omega arith))))

pub over_append : {A K : Type 0} (f : ℕ → List A) (xs ys : List (Entry K)) → over f (xs ++ ys) ≡ over f xs ++ over f ys
over_append f [] ys = refl
over_append f (x ∷ xs) ys = ap (λ rest. f x.child ++ rest) (over_append f xs ys) ∙ sym (append_assoc (f x.child) (over f xs) (over f ys))

pub all_rest : {K : Type 0} (P : Entry K → Type 0) (xs ys : List (Entry K)) → AllEntries P (xs ++ ys) → AllEntries P ys
all_rest P [] ys h = h
all_rest P (x ∷ xs) ys h = all_rest P xs ys h.1

module _ {R K : Type 0} (form : Form R K) (law : IsLawful form) where
  low_of_join : (e : Entry K) (a : Span K) (s : Option (Span K)) → agrees form e (join form (Some a) s) ≡ true → same_key form e.low a.low ≡ true
  low_of_join e a None h = (and_parts _ _ h).0
  low_of_join e a (Some b) h = (and_parts _ _ h).0

  -- an entry's low key is that of the first record below it
  first_is : (e : Entry K) (r : R) (rs : List R) → agrees form e (span_of form (r ∷ rs)) ≡ true → same_key form e.low (form.key_of r) ≡ true
  unfolding span_of
  first_is e r rs h = low_of_join e (record { low = form.key_of r; high = form.high_key_of r }) (span_of form rs) h

  pub none_agrees : (e : Entry K) → agrees form e (span_of form []) ≡ true → ⊥
  unfolding span_of
  none_agrees e h = false≢true h

  -- a key that comes before one of two equal keys comes before the other
  before_same : (key a b : K) → same_key form a b ≡ true → form.is_before key a ≡ true → form.is_before key b ≡ true
  before_same key a b s h =
      let parts = and_parts _ _ s in
      elim (law.total key b a h) [ inl u ↦ u | inr u ↦ absurd (false≢true (sym (fails (form.is_before b a) parts.1) ∙ u)) ]

  same_before : (key a b : K) → same_key form a b ≡ true → form.is_before key b ≡ true → form.is_before key a ≡ true
  same_before key a b s h =
      let parts = and_parts _ _ s in
      elim (law.total key a b h) [ inl u ↦ u | inr u ↦ absurd (false≢true (sym (fails (form.is_before a b) parts.0) ∙ u)) ]

  pub reached_begins : (key : K) (e : Entry K) (rs : List R) → agrees form e (span_of form rs) ≡ true → form.is_before key e.low ≡ false → Begins form law key rs
  reached_begins key e [] h f = none_agrees e h
  reached_begins key e (r ∷ rs) h f =
      elim (is_either (form.is_before key (form.key_of r))) [
        | inl t ↦ absurd (false≢true (sym f ∙ same_before key e.low (form.key_of r) (first_is e r rs h) t))
        | inr u ↦ u
      ]

  pub unreached_lies : (key : K) (e : Entry K) (rs others : List R) → agrees form e (span_of form rs) ≡ true → form.is_before key e.low ≡ true → LiesAbove form law key (rs ++ others)
  unreached_lies key e [] others h t = absurd (none_agrees e h)
  unreached_lies key e (r ∷ rs) others h t = before_same key e.low (form.key_of r) (first_is e r rs h) t
