-- Runs of free space apart from each other, where some go and others come.
use Rattle.std.specs.Prelude.{ℕ, Bool, true, false, not, List, [], ◌∷◌, ◌++◌, filter, find, reverse, Option, Some, None, ◌≡◌, ◌⊎◌, ◌==◌, ◌&&◌, ◌||◌, ◌+◌, ◌-◌, ◌<◌, ◌≤◌, nat_le, nat_lt, is_some, option_to_list, refl}
use Rattle.std.specs.Option.{option_map_or, option_or}
use Rattle.std.proofs.Common.{sym, ap, ap₂, subst, ◌∙◌, arith, cond, inl, inr}
use Rattle.std.proofs.lemmas.Bool.{and_parts, cases_order, eq-eqb, eqb-true, leb-true, lt-ltb, ltb-true, true≢false}
use Rattle.std.proofs.lemmas.List.{reverse-append}
use Rattle.fs_change.specs.Records.{before_run, behind_run, beside_run, by_start, end_of, give_span, has_span, holder_of, is_same_span, joined_run, last_at, only_where, put_all, put_by, rest_of, span, take_span}
use Rattle.fs_state.specs.Lists.{only_if}
use Rattle.span_recs.specs.declared.span.SpanRec.{SpanRec}
use Rattle.law_accounts.specs.Account.Space.{AreApart}

-- ---- what stands in a list

abbrev pub Stands : SpanRec → List SpanRec → Type 0
Stands r [] = ⊥
Stands r (s ∷ ss) = (s ≡ r) ⊎ Stands r ss

pub kept : (test : SpanRec → Bool) (rs : List SpanRec) (r : SpanRec) → Stands r (filter test rs) → Stands r rs × (test r ≡ true)
kept test [] r c = absurd c
kept test (s ∷ ss) r c = (elim (test s) as (λ b. test s ≡ b → Stands r (cond b (s ∷ filter test ss) (filter test ss)) → Stands r (s ∷ ss) × (test r ≡ true)) [
  | true ↦ λ h d. elim d [
    | inl same ↦ (inl same, ap test (sym same) ∙ h)
    | inr later ↦ let on = kept test ss r later in (inr on.0, on.1)
  ]
  | false ↦ λ h d. let on = kept test ss r d in (inr on.0, on.1)
]) refl c

pub found : (test : SpanRec → Bool) (rs : List SpanRec) (r : SpanRec) → find test rs ≡ Some r → Stands r rs × (test r ≡ true)
found test [] r h = absurd (nothing h)
  where
    nothing : ◌≡◌ {A = Option SpanRec} None (Some r) → ⊥
    nothing e = cc
found test (s ∷ ss) r h = (elim (test s) as (λ b. test s ≡ b → cond b (Some s) (find test ss) ≡ Some r → Stands r (s ∷ ss) × (test r ≡ true)) [
  | true ↦ λ p e. let same : s ≡ r = out e in (inl same, ap test (sym same) ∙ p)
  | false ↦ λ p e. let on = found test ss r e in (inr on.0, on.1)
]) refl h
  where
    out : ◌≡◌ {A = Option SpanRec} (Some s) (Some r) → s ≡ r
    out e = cc

in_both : (xs ys : List SpanRec) (r : SpanRec) → Stands r (xs ++ ys) → Stands r xs ⊎ Stands r ys
in_both [] ys r c = inr c
in_both (x ∷ xs) ys r c = elim c [
  | inl same ↦ inl (inl same)
  | inr later ↦ elim (in_both xs ys r later) [ inl here ↦ inl (inr here) | inr there ↦ inr there ]
]

pub reversed : (rs : List SpanRec) (r : SpanRec) → Stands r (reverse rs) → Stands r rs
reversed [] r c = c
reversed (s ∷ ss) r c = elim (in_both (reverse ss) (s ∷ []) r (subst (Stands r) (reverse-append (s ∷ []) ss) c)) [
  | inl later ↦ inr (reversed ss r later)
  | inr here ↦ elim here [ inl same ↦ inl same | inr none ↦ absurd none ]
]

pub put_has : (x : SpanRec) (rs : List SpanRec) (r : SpanRec) → Stands r (by_start x rs) → (x ≡ r) ⊎ Stands r rs
put_has x [] r c = c
put_has x (y ∷ ys) r c = (elim (nat_lt y.start x.start) as (λ b. Stands r (cond b (y ∷ put_by (λ s. s.start) x ys) (x ∷ y ∷ ys)) → (x ≡ r) ⊎ Stands r (y ∷ ys)) [
  | true ↦ λ d. elim d [
    | inl same ↦ inr (inl same)
    | inr later ↦ elim (put_has x ys r later) [ inl same ↦ inl same | inr on ↦ inr (inr on) ]
  ]
  | false ↦ λ d. d
]) c

-- ---- a gap between two

abbrev pub Gap : SpanRec → SpanRec → Type 0
Gap r s = (end_of r + 1 ≤ s.start) ⊎ (end_of s + 1 ≤ r.start)

pub later : (a b : ℕ) (rs : List SpanRec) → a ≤ b → AreApart b rs → AreApart a rs
later a b [] le h = tt
later a b (r ∷ rs) le h = let f = h.0 in (omega (arith, le, f), h.1, h.2)

-- each begins there or behind, and has a block
pub stands_from : (from : ℕ) (rs : List SpanRec) (r : SpanRec) → AreApart from rs → Stands r rs → (from ≤ r.start) × (0 < r.count)
stands_from from [] r h c = absurd c
stands_from from (s ∷ ss) r h c = elim c [
  | inl same ↦ subst (λ (x : SpanRec). (from ≤ x.start) × (0 < x.count)) same (h.0, h.1)
  | inr behind ↦ let on = stands_from (s.start + s.count + 1) ss r h.2 behind in let f = h.0 in let g = on.0 in (omega (arith, f, g), on.1)
]

pub one_or_gap : (from : ℕ) (rs : List SpanRec) (r s : SpanRec) → AreApart from rs → Stands r rs → Stands s rs → (r ≡ s) ⊎ Gap r s
one_or_gap from [] r s h c d = absurd c
one_or_gap from (x ∷ xs) r s h c d = elim c [
  | inl same ↦ elim d [
    | inl also ↦ inl (sym same ∙ also)
    | inr behind ↦ inr (inl (subst (λ (y : SpanRec). end_of y + 1 ≤ s.start) same (stands_from (x.start + x.count + 1) xs s h.2 behind).0))
  ]
  | inr behind ↦ elim d [
    | inl also ↦ inr (inr (subst (λ (y : SpanRec). end_of y + 1 ≤ r.start) also (stands_from (x.start + x.count + 1) xs r h.2 behind).0))
    | inr both ↦ one_or_gap (x.start + x.count + 1) xs r s h.2 behind both
  ]
]

pub filter_apart : (test : SpanRec → Bool) (from : ℕ) (rs : List SpanRec) → AreApart from rs → AreApart from (filter test rs)
filter_apart test from [] h = tt
filter_apart test from (r ∷ rs) h = elim (test r) as (λ b. AreApart from (cond b (r ∷ filter test rs) (filter test rs))) [
  | true ↦ (h.0, h.1, filter_apart test (r.start + r.count + 1) rs h.2)
  | false ↦ filter_apart test from rs (later from (r.start + r.count + 1) rs (let f = h.0 in omega (arith, f)) h.2)
]

-- one that has a gap to each comes among them
pub put_apart : (x : SpanRec) (from : ℕ) (rs : List SpanRec) → AreApart from rs → from ≤ x.start → 0 < x.count → ((r : SpanRec) → Stands r rs → Gap x r) → AreApart from (by_start x rs)
put_apart x from [] h le some gap = (le, some, tt)
put_apart x from (y ∷ ys) h le some gap = (elim (nat_lt y.start x.start) as (λ b. nat_lt y.start x.start ≡ b → AreApart from (cond b (y ∷ put_by (λ s. s.start) x ys) (x ∷ y ∷ ys))) [
  | true ↦ λ e.
      let lt : y.start < x.start = ltb-true y.start x.start e in
      (h.0, h.1, put_apart x (y.start + y.count + 1) ys h.2 (elim (gap y (inl refl)) [ inl before ↦ absurd (omega (arith, before, lt)) | inr behind ↦ behind ]) some (λ r c. gap r (inr c)))
  | false ↦ λ e. elim (gap y (inl refl)) [
    | inl before ↦ (le, some, (before, h.1, h.2))
    | inr behind ↦ let pos = h.1 in absurd (true≢false (sym (lt-ltb y.start x.start (omega (arith, behind, pos))) ∙ e))
  ]
]) refl

same_self : (s : SpanRec) → is_same_span s s ≡ true
same_self s = ap₂ (λ (x y : Bool). x && y) (eq-eqb s.start s.start refl) (eq-eqb s.count s.count refl)

-- what isn't one of these
pub beside : (out : List SpanRec) (r s : SpanRec) → Stands s out → not (has_span out r) ≡ true → r ≡ s → ⊥
beside [] r s c h e = absurd c
beside (x ∷ xs) r s c h e = by (is_same_span r x) refl h (λ rest i. beside xs r s rest i e)
  where
    by : (k : Bool) → is_same_span r x ≡ k → not (k || has_span xs r) ≡ true → (Stands s xs → not (has_span xs r) ≡ true → ⊥) → ⊥
    by true f i again = true≢false (sym i)
    by false f i again = elim c [
      | inl same ↦ true≢false (sym (same_self r) ∙ ap (is_same_span r) (e ∙ sym same) ∙ f)
      | inr rest ↦ again rest i
    ]
