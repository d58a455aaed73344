-- A record of free space that is written is read again, and the other records, keys and pointers stay.
use Rattle.std.proofs.Common.{◌≡◌, ◌≢◌, ℕ, ◌<◌, ◌≤◌, ◌+◌, ◌*◌, ◌^◌, List, [], ◌∷◌, length, true, arith, refl, subst, sym, inl, inr}
use Rattle.std.specs.Prelude.{◌⊎◌}
use Rattle.std.proofs.lemmas.Bool.{cases_lt}
use Rattle.byte_fields.specs.Fields.{field, with_field}
use Rattle.sblock.specs.Area.{child_of}
use Rattle.sblock.specs.Form.{Form, IsLawful, same_key}
use Rattle.sblock.specs.declared.kind.Kind.TheVariants.{Bno, Cnt}
use Rattle.sblock.specs.FieldLaws.{field_length}
use Rattle.span_recs.specs.declared.span.SpanRec.{SpanRec}
use Rattle.span_recs.specs.Spans.{bno_form, cnt_form, span_at, start_at, count_at, with_span}
use Rattle.span_recs.specs.SpanLaws.{lawful_bno, lawful_cnt}
use Rattle.sblock.proofs.WrittenLemmas.{written_beside, written_first, children_stay}

module _ (area : List ℕ) (i : ℕ) (r : SpanRec) (whole : length area ≡ 4040) (room : i < 505) where
  start_taken : r.start < 2 ^ 32 → start_at (with_span area i r) i ≡ r.start
  unfolding start_at with_span
  start_taken fits = written_first area (8 * i) 4 r.start ((4, r.count) ∷ []) (omega (arith, whole, room)) fits

  count_taken : r.count < 2 ^ 32 → count_at (with_span area i r) i ≡ r.count
  unfolding count_at with_span
  count_taken fits =
      let long = field_length 4 area (8 * i) r.start (omega (arith, whole, room)) in
      written_first (with_field 4 area (8 * i) r.start) (8 * i + 4) 4 r.count [] (omega (arith, whole, room, long)) fits

  beside : (m to : ℕ) → (to + m ≤ 8 * i) ⊎ (8 * i + 8 ≤ to) → field m (with_span area i r) to ≡ field m area to
  unfolding with_span
  beside m to apart = written_beside area (8 * i) ((4, r.start) ∷ (4, r.count) ∷ []) m to (omega (arith, whole, room)) apart

  apart_from : (j : ℕ) → j ≢ i → (8 * j + 8 ≤ 8 * i) ⊎ (8 * i + 8 ≤ 8 * j)
  apart_from j other = elim (cases_lt j i) [ inl below ↦ inl (omega (arith, below)) | inr above ↦ inr (omega (arith, above, other)) ]

  start_others : (j : ℕ) → j ≢ i → start_at (with_span area i r) j ≡ start_at area j
  unfolding start_at
  start_others j other = beside 4 (8 * j) (elim (apart_from j other) [ inl a ↦ inl (omega (arith, a)) | inr a ↦ inr (omega (arith, a)) ])

  count_others : (j : ℕ) → j ≢ i → count_at (with_span area i r) j ≡ count_at area j
  unfolding count_at
  count_others j other = beside 4 (8 * j + 4) (elim (apart_from j other) [ inl a ↦ inl (omega (arith, a)) | inr a ↦ inr (omega (arith, a)) ])

pub span_taken : (area : List ℕ) (i : ℕ) (r : SpanRec) → length area ≡ 4040 → i < 505 → r.start < 2 ^ 32 → r.count < 2 ^ 32 → span_at (with_span area i r) i ≡ r
span_taken area i r whole room a b = rw (start_taken area i r whole room a, count_taken area i r whole room b) refl

pub span_others : (area : List ℕ) (i : ℕ) (r : SpanRec) → length area ≡ 4040 → i < 505 → (j : ℕ) → j ≢ i → span_at (with_span area i r) j ≡ span_at area j
span_others area i r whole room j other = rw (start_others area i r whole room j other, count_others area i r whole room j other) refl

same_self : {R K : Type 0} (form : Form R K) → IsLawful form → (k : K) → same_key form k k ≡ true
same_self form lawful k = rw (lawful.strict k) refl

pub bno_same : (a b : SpanRec) → a ≡ b → same_key bno_form a b ≡ true
bno_same a b is = subst (λ (x : SpanRec). same_key bno_form x b ≡ true) (sym is) (same_self bno_form lawful_bno b)

pub cnt_same : (a b : SpanRec) → a ≡ b → same_key cnt_form a b ≡ true
cnt_same a b is = subst (λ (x : SpanRec). same_key cnt_form x b ≡ true) (sym is) (same_self cnt_form lawful_cnt b)

pub bno_pointers_stay : (area : List ℕ) (i : ℕ) (k : SpanRec) → length area ≡ 4040 → i < 336 → (j : ℕ) → child_of Bno (with_span area i k) j ≡ child_of Bno area j
unfolding with_span
bno_pointers_stay area i k whole room j = children_stay Bno area (8 * i) ((4, k.start) ∷ (4, k.count) ∷ []) j (omega (arith, whole, room)) (omega (arith, room))

pub cnt_pointers_stay : (area : List ℕ) (i : ℕ) (k : SpanRec) → length area ≡ 4040 → i < 336 → (j : ℕ) → child_of Cnt (with_span area i k) j ≡ child_of Cnt area j
unfolding with_span
cnt_pointers_stay area i k whole room j = children_stay Cnt area (8 * i) ((4, k.start) ∷ (4, k.count) ∷ []) j (omega (arith, whole, room)) (omega (arith, room))
