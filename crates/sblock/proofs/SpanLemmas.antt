-- The keys of records in two parts.
use Rattle.std.proofs.Common.{◌≡◌, Bool, true, false, List, [], ◌∷◌, ◌++◌, Option, Some, None, refl, ap, sym, ◌∙◌, inl, inr}
use Rattle.std.specs.Prelude.{◌⊎◌, if◌then◌else◌}
use Rattle.std.proofs.lemmas.Bool.{false≢true}
use Rattle.sblock.specs.Form.{Form, IsLawful}
use Rattle.sblock.specs.Spans.{later_key, join, span_of_one, span_of, span_over, SpansJoin, NodeSpansJoin}
use Rattle.sblock.specs.declared.spans.Span.{Span}

choose_true : {A : Type 0} (b : Bool) (x y : A) → b ≡ true → (if b then x else y) ≡ x
choose_true true x y h = refl
choose_true false x y h = cc

choose_false : {A : Type 0} (b : Bool) (x y : A) → b ≡ false → (if b then x else y) ≡ y
choose_false true x y h = cc
choose_false false x y h = refl

is_either : (b : Bool) → (b ≡ true) ⊎ (b ≡ false)
is_either true = inl refl
is_either false = inr refl

pub join_none : {R K : Type 0} (form : Form R K) (a : Option (Span K)) → join form a None ≡ a
join_none form None = refl
join_none form (Some a) = refl

module _ {R K : Type 0} (form : Form R K) (law : IsLawful form) where
  not_before : (a b c : K) → form.is_before a b ≡ false → form.is_before b c ≡ false → later_key form a c ≡ a
  not_before a b c ab bc =
      elim (is_either (form.is_before a c)) [
        | inl ac ↦ absurd (elim (law.total a b c ac) [ inl t ↦ false≢true (sym ab ∙ t) | inr t ↦ false≢true (sym bc ∙ t) ])
        | inr ac ↦ choose_false _ c a ac
      ]

  -- the later of three keys, in either grouping
  later_regroup : (a b c : K) → later_key form (later_key form a b) c ≡ later_key form a (later_key form b c)
  later_regroup a b c =
      elim (is_either (form.is_before a b)) [
        | inl ab ↦ elim (is_either (form.is_before b c)) [
          | inl bc ↦ (let ac = law.along a b c ab bc in
              ap (λ x. later_key form x c) (choose_true _ b a ab) ∙ choose_true _ c b bc ∙ sym (ap (later_key form a) (choose_true _ c b bc) ∙ choose_true _ c a ac))
          | inr bc ↦
              ap (λ x. later_key form x c) (choose_true _ b a ab) ∙ choose_false _ c b bc ∙ sym (ap (later_key form a) (choose_false _ c b bc) ∙ choose_true _ b a ab)
        ]
        | inr ab ↦ elim (is_either (form.is_before b c)) [
          | inl bc ↦ ap (λ x. later_key form x c) (choose_false _ b a ab) ∙ sym (ap (later_key form a) (choose_true _ c b bc))
          | inr bc ↦
              ap (λ x. later_key form x c) (choose_false _ b a ab) ∙ not_before a b c ab bc ∙ sym (ap (later_key form a) (choose_false _ c b bc) ∙ choose_false _ b a ab)
        ]
      ]

  pub join_regroup : (a b c : Option (Span K)) → join form (join form a b) c ≡ join form a (join form b c)
  join_regroup None b c = refl
  join_regroup (Some a) None c = refl
  join_regroup (Some a) (Some b) None = refl
  join_regroup (Some a) (Some b) (Some c) = rw (later_regroup a.high b.high c.high) refl

  pub span_append : SpansJoin form
  unfolding span_of
  span_append [] ys = refl
  span_append (x ∷ xs) ys =
      let first : Option (Span K) = Some (span_of_one form x) in
      ap (join form first) (span_append xs ys) ∙ sym (join_regroup first (span_of form xs) (span_of form ys))

  pub subtrees_append : NodeSpansJoin form
  unfolding span_over
  subtrees_append [] ys = refl
  subtrees_append (x ∷ xs) ys =
      let first : Option (Span K) = Some x in
      ap (join form first) (subtrees_append xs ys) ∙ sym (join_regroup first (span_over form xs) (span_over form ys))

  -- one record, and one subtree, more
  pub record_taken : (rs : List R) (r : R) → span_of form (rs ++ r ∷ []) ≡ join form (span_of form rs) (Some (span_of_one form r))
  unfolding span_of
  record_taken rs r = span_append rs (r ∷ [])

  pub subtree_taken : (ss : List (Span K)) (s : Span K) → span_over form (ss ++ s ∷ []) ≡ join form (span_over form ss) (Some s)
  unfolding span_over
  subtree_taken ss s = subtrees_append ss (s ∷ [])
