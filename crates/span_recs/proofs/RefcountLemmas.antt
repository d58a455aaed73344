-- A record or key of reference counts that is written is read again, and the other records, keys and pointers stay.
use Rattle.std.proofs.Common.{◌≡◌, ◌≢◌, ℕ, ◌<◌, ◌≤◌, ◌+◌, ◌*◌, ◌^◌, List, [], ◌∷◌, length, true, ap, arith, refl, subst, sym, ◌∙◌, inl, inr}
use Rattle.std.specs.Prelude.{◌⊎◌}
use Rattle.std.proofs.lemmas.Bool.{cases_lt}
use Rattle.byte_fields.specs.Fields.{field, with_field}
use Rattle.sblock.specs.Area.{child_of}
use Rattle.sblock.specs.Form.{same_key}
use Rattle.sblock.specs.declared.kind.Kind.TheVariants.{Refc}
use Rattle.sblock.specs.FieldLaws.{field_length, field_taken, field_beside}
use Rattle.sblock.specs.AreaLaws.{child_stays}
use Rattle.span_recs.specs.declared.refcount.RefcRec.{RefcRec}
use Rattle.span_recs.specs.declared.refcount.RefcKey.{RefcKey}
use Rattle.span_recs.specs.Refcounts.{refc_form, refc_at, start_at, count_at, refcount_at, with_refc, refc_key_at, key_start_at, with_refc_key}
use Rattle.span_recs.specs.SpanLaws.{strict_nat}
use Rattle.sblock.proofs.WrittenLemmas.{written, written_beside, written_first}

module _ (area : List ℕ) (i : ℕ) (r : RefcRec) (whole : length area ≡ 4040) (room : i < 336) where
  fields : List (ℕ × ℕ)
  fields = (4, r.start) ∷ (4, r.count) ∷ (4, r.refcount) ∷ []

  -- the last field, four bytes behind the second one
  behind : (12 * i + 4) + 4 ≡ 12 * i + 8
  behind = omega arith

  is_written : with_refc area i r ≡ written area (12 * i) fields
  unfolding with_refc fields
  is_written = ap (λ (at : ℕ). with_field 4 (with_field 4 (with_field 4 area (12 * i) r.start) (12 * i + 4) r.count) at r.refcount) (sym behind)

  one : List ℕ
  one = with_field 4 area (12 * i) r.start

  two : List ℕ
  two = with_field 4 one (12 * i + 4) r.count

  one_long : length one ≡ 4040
  unfolding one
  one_long = field_length 4 area (12 * i) r.start (omega (arith, whole, room)) ∙ whole

  two_long : length two ≡ 4040
  unfolding two
  two_long = field_length 4 one (12 * i + 4) r.count (omega (arith, one_long, room)) ∙ one_long

  start_taken : r.start < 2 ^ 32 → start_at (with_refc area i r) i ≡ r.start
  unfolding start_at fields
  start_taken fits = ap (λ (bytes : List ℕ). field 4 bytes (12 * i)) is_written ∙ written_first area (12 * i) 4 r.start ((4, r.count) ∷ (4, r.refcount) ∷ []) (omega (arith, whole, room)) fits

  count_taken : r.count < 2 ^ 32 → count_at (with_refc area i r) i ≡ r.count
  unfolding count_at fields one
  count_taken fits = ap (λ (bytes : List ℕ). field 4 bytes (12 * i + 4)) is_written ∙ written_first one (12 * i + 4) 4 r.count ((4, r.refcount) ∷ []) (omega (arith, one_long, room)) fits

  refcount_taken : r.refcount < 2 ^ 32 → refcount_at (with_refc area i r) i ≡ r.refcount
  unfolding refcount_at with_refc two one
  refcount_taken fits = field_taken 4 two (12 * i + 8) r.refcount (omega (arith, two_long, room)) fits

  beside : (m to : ℕ) → (to + m ≤ 12 * i) ⊎ (12 * i + 12 ≤ to) → field m (with_refc area i r) to ≡ field m area to
  unfolding fields
  beside m to apart = ap (λ (bytes : List ℕ). field m bytes to) is_written ∙ written_beside area (12 * i) fields m to (omega (arith, whole, room)) apart

  apart_from : (j : ℕ) → j ≢ i → (12 * j + 12 ≤ 12 * i) ⊎ (12 * i + 12 ≤ 12 * j)
  apart_from j other = elim (cases_lt j i) [ inl below ↦ inl (omega (arith, below)) | inr above ↦ inr (omega (arith, above, other)) ]

  start_others : (j : ℕ) → j ≢ i → start_at (with_refc area i r) j ≡ start_at area j
  unfolding start_at
  start_others j other = beside 4 (12 * j) (elim (apart_from j other) [ inl a ↦ inl (omega (arith, a)) | inr a ↦ inr (omega (arith, a)) ])

  count_others : (j : ℕ) → j ≢ i → count_at (with_refc area i r) j ≡ count_at area j
  unfolding count_at
  count_others j other = beside 4 (12 * j + 4) (elim (apart_from j other) [ inl a ↦ inl (omega (arith, a)) | inr a ↦ inr (omega (arith, a)) ])

  refcount_others : (j : ℕ) → j ≢ i → refcount_at (with_refc area i r) j ≡ refcount_at area j
  unfolding refcount_at
  refcount_others j other = beside 4 (12 * j + 8) (elim (apart_from j other) [ inl a ↦ inl (omega (arith, a)) | inr a ↦ inr (omega (arith, a)) ])

pub refc_taken : (area : List ℕ) (i : ℕ) (r : RefcRec) → length area ≡ 4040 → i < 336 → r.start < 2 ^ 32 → r.count < 2 ^ 32 → r.refcount < 2 ^ 32 → refc_at (with_refc area i r) i ≡ r
refc_taken area i r whole room a b c = rw (start_taken area i r whole room a, count_taken area i r whole room b, refcount_taken area i r whole room c) refl

pub refc_others : (area : List ℕ) (i : ℕ) (r : RefcRec) → length area ≡ 4040 → i < 336 → (j : ℕ) → j ≢ i → refc_at (with_refc area i r) j ≡ refc_at area j
refc_others area i r whole room j other = rw (start_others area i r whole room j other, count_others area i r whole room j other, refcount_others area i r whole room j other) refl

pub refc_key_taken : (area : List ℕ) (i : ℕ) (k : RefcKey) → length area ≡ 4040 → i < 505 → k.start < 2 ^ 32 → refc_key_at (with_refc_key area i k) i ≡ k
unfolding key_start_at with_refc_key
refc_key_taken area i k whole room fits = rw (field_taken 4 area (4 * i) k.start (omega (arith, whole, room)) fits) refl

pub refc_same : (a b : RefcKey) → a ≡ b → same_key refc_form a b ≡ true
refc_same a b is = subst (λ (x : RefcKey). same_key refc_form x b ≡ true) (sym is) (rw (strict_nat b.start) refl)

pub refc_key_others : (area : List ℕ) (i : ℕ) (k : RefcKey) → length area ≡ 4040 → i < 505 → (j : ℕ) → j ≢ i → refc_key_at (with_refc_key area i k) j ≡ refc_key_at area j
unfolding key_start_at with_refc_key
refc_key_others area i k whole room j other =
    rw (field_beside 4 area (4 * i) k.start 4 (4 * j) (omega (arith, whole, room)) (elim (cases_lt j i) [ inl below ↦ inl (omega (arith, below)) | inr above ↦ inr (omega (arith, above, other)) ])) refl

pub refc_pointers_stay : (area : List ℕ) (i : ℕ) (k : RefcKey) → length area ≡ 4040 → i < 505 → (j : ℕ) → child_of Refc (with_refc_key area i k) j ≡ child_of Refc area j
unfolding with_refc_key
refc_pointers_stay area i k whole room j = child_stays Refc area 4 (4 * i) k.start j (omega (arith, whole, room)) (omega (arith, room))
