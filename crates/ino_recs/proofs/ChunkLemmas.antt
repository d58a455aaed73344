-- A record or key of inode chunks that is written is read again, and the other records, keys and pointers stay.
use Rattle.std.proofs.Common.{◌≡◌, ◌≢◌, ℕ, ◌<◌, ◌≤◌, ◌+◌, ◌*◌, ◌^◌, List, [], ◌∷◌, length, true, ap, arith, refl, subst, sym, ◌∙◌, inl, inr}
use Rattle.std.specs.Prelude.{◌⊎◌}
use Rattle.std.proofs.lemmas.Bool.{cases_lt}
use Rattle.byte_fields.specs.Fields.{field, with_field}
use Rattle.sblock.specs.Area.{child_of}
use Rattle.sblock.specs.Form.{same_key}
use Rattle.sblock.specs.declared.kind.Kind.TheVariants.{Ino, Fino}
use Rattle.sblock.specs.FieldLaws.{field_length, field_taken, field_beside}
use Rattle.sblock.specs.AreaLaws.{child_stays}
use Rattle.ino_recs.specs.declared.chunk.InoRec.{InoRec}
use Rattle.ino_recs.specs.declared.chunk.InoKey.{InoKey}
use Rattle.ino_recs.specs.Chunks.{ino_form, fino_form, ino_at, startino_at, holemask_at, count_at, freecount_at, free_at, with_ino, ino_key_at, key_startino_at, with_ino_key}
use Rattle.ino_recs.specs.ChunkLaws.{strict_nat}
use Rattle.sblock.proofs.WrittenLemmas.{width, written, written_beside, written_first}

module _ (area : List ℕ) (i : ℕ) (r : InoRec) (whole : length area ≡ 4040) (room : i < 252) where
  -- the fields of the record, each right behind the one before it
  is_written : with_ino area i r ≡ written area (16 * i) ((4, r.startino) ∷ (2, r.holemask) ∷ (1, r.count) ∷ (1, r.freecount) ∷ (8, r.free) ∷ [])
  unfolding with_ino
  is_written =
      let count : (16 * i + 4) + 2 ≡ 16 * i + 6 = omega arith in
      let freecount : (16 * i + 6) + 1 ≡ 16 * i + 7 = omega arith in
      let free : (16 * i + 7) + 1 ≡ 16 * i + 8 = omega arith in
      rw (count, freecount, free) refl

  -- the area once the fields in front of a place are written, and the others are still to come
  taken_at : (done : List ℕ) (at n v : ℕ) (fs : List (ℕ × ℕ)) → with_ino area i r ≡ written done at ((n, v) ∷ fs) → length done ≡ 4040 → at + (n + width fs) ≤ 4040 → v < 256 ^ n → field n (with_ino area i r) at ≡ v
  taken_at done at n v fs is long le fits = ap (λ (bytes : List ℕ). field n bytes at) is ∙ written_first done at n v fs (omega (arith, long, le)) fits

  one : List ℕ
  one = with_field 4 area (16 * i) r.startino

  two : List ℕ
  two = with_field 2 one (16 * i + 4) r.holemask

  three : List ℕ
  three = with_field 1 two (16 * i + 6) r.count

  four : List ℕ
  four = with_field 1 three (16 * i + 7) r.freecount

  one_long : length one ≡ 4040
  unfolding one
  one_long = field_length 4 area (16 * i) r.startino (omega (arith, whole, room)) ∙ whole

  two_long : length two ≡ 4040
  unfolding two
  two_long = field_length 2 one (16 * i + 4) r.holemask (omega (arith, one_long, room)) ∙ one_long

  three_long : length three ≡ 4040
  unfolding three
  three_long = field_length 1 two (16 * i + 6) r.count (omega (arith, two_long, room)) ∙ two_long

  four_long : length four ≡ 4040
  unfolding four
  four_long = field_length 1 three (16 * i + 7) r.freecount (omega (arith, three_long, room)) ∙ three_long

  startino_taken : r.startino < 2 ^ 32 → startino_at (with_ino area i r) i ≡ r.startino
  unfolding startino_at
  startino_taken fits = taken_at area (16 * i) 4 r.startino ((2, r.holemask) ∷ (1, r.count) ∷ (1, r.freecount) ∷ (8, r.free) ∷ []) is_written whole (omega (arith, room)) fits

  holemask_taken : r.holemask < 2 ^ 16 → holemask_at (with_ino area i r) i ≡ r.holemask
  unfolding holemask_at one
  holemask_taken fits = taken_at one (16 * i + 4) 2 r.holemask ((1, r.count) ∷ (1, r.freecount) ∷ (8, r.free) ∷ []) is_written one_long (omega (arith, room)) fits

  count_taken : r.count < 2 ^ 8 → count_at (with_ino area i r) i ≡ r.count
  unfolding count_at two one with_ino
  count_taken fits =
      let freecount : (16 * i + 6) + 1 ≡ 16 * i + 7 = omega arith in
      let free : (16 * i + 7) + 1 ≡ 16 * i + 8 = omega arith in
      taken_at two (16 * i + 6) 1 r.count ((1, r.freecount) ∷ (8, r.free) ∷ []) (rw (freecount, free) refl) two_long (omega (arith, room)) fits

  freecount_taken : r.freecount < 2 ^ 8 → freecount_at (with_ino area i r) i ≡ r.freecount
  unfolding freecount_at three two one with_ino
  freecount_taken fits =
      let free : (16 * i + 7) + 1 ≡ 16 * i + 8 = omega arith in
      taken_at three (16 * i + 7) 1 r.freecount ((8, r.free) ∷ []) (rw free refl) three_long (omega (arith, room)) fits

  free_taken : r.free < 2 ^ 64 → free_at (with_ino area i r) i ≡ r.free
  unfolding free_at four three two one with_ino
  free_taken fits = taken_at four (16 * i + 8) 8 r.free [] refl four_long (omega (arith, room)) fits

  beside : (m to : ℕ) → (to + m ≤ 16 * i) ⊎ (16 * i + 16 ≤ to) → field m (with_ino area i r) to ≡ field m area to
  beside m to apart = ap (λ (bytes : List ℕ). field m bytes to) is_written ∙ written_beside area (16 * i) ((4, r.startino) ∷ (2, r.holemask) ∷ (1, r.count) ∷ (1, r.freecount) ∷ (8, r.free) ∷ []) m to (omega (arith, whole, room)) apart

  -- a field of another record
  other : (m at j : ℕ) → at + m ≤ 16 → j ≢ i → field m (with_ino area i r) (16 * j + at) ≡ field m area (16 * j + at)
  other m at j le ne = beside m (16 * j + at) (elim (cases_lt j i) [ inl below ↦ inl (omega (arith, below, le)) | inr above ↦ inr (omega (arith, above, ne)) ])

  startino_others : (j : ℕ) → j ≢ i → startino_at (with_ino area i r) j ≡ startino_at area j
  unfolding startino_at
  startino_others j ne = let first : 16 * j + 0 ≡ 16 * j = omega arith in rw first at (other 4 0 j (omega arith) ne)

  holemask_others : (j : ℕ) → j ≢ i → holemask_at (with_ino area i r) j ≡ holemask_at area j
  unfolding holemask_at
  holemask_others j ne = other 2 4 j (omega arith) ne

  count_others : (j : ℕ) → j ≢ i → count_at (with_ino area i r) j ≡ count_at area j
  unfolding count_at
  count_others j ne = other 1 6 j (omega arith) ne

  freecount_others : (j : ℕ) → j ≢ i → freecount_at (with_ino area i r) j ≡ freecount_at area j
  unfolding freecount_at
  freecount_others j ne = other 1 7 j (omega arith) ne

  free_others : (j : ℕ) → j ≢ i → free_at (with_ino area i r) j ≡ free_at area j
  unfolding free_at
  free_others j ne = other 8 8 j (omega arith) ne

pub ino_taken : (area : List ℕ) (i : ℕ) (r : InoRec) → length area ≡ 4040 → i < 252 → r.startino < 2 ^ 32 → r.holemask < 2 ^ 16 → r.count < 2 ^ 8 → r.freecount < 2 ^ 8 → r.free < 2 ^ 64 → ino_at (with_ino area i r) i ≡ r
ino_taken area i r whole room a b c d e =
    rw (startino_taken area i r whole room a, holemask_taken area i r whole room b, count_taken area i r whole room c, freecount_taken area i r whole room d, free_taken area i r whole room e) refl

pub ino_others : (area : List ℕ) (i : ℕ) (r : InoRec) → length area ≡ 4040 → i < 252 → (j : ℕ) → j ≢ i → ino_at (with_ino area i r) j ≡ ino_at area j
ino_others area i r whole room j ne =
    rw (startino_others area i r whole room j ne, holemask_others area i r whole room j ne, count_others area i r whole room j ne, freecount_others area i r whole room j ne, free_others area i r whole room j ne) refl

pub key_taken : (area : List ℕ) (i : ℕ) (k : InoKey) → length area ≡ 4040 → i < 505 → k.startino < 2 ^ 32 → ino_key_at (with_ino_key area i k) i ≡ k
unfolding key_startino_at with_ino_key
key_taken area i k whole room fits = rw (field_taken 4 area (4 * i) k.startino (omega (arith, whole, room)) fits) refl

pub ino_same : (a b : InoKey) → a ≡ b → same_key ino_form a b ≡ true
ino_same a b is = subst (λ (x : InoKey). same_key ino_form x b ≡ true) (sym is) (rw (strict_nat b.startino) refl)

pub fino_same : (a b : InoKey) → a ≡ b → same_key fino_form a b ≡ true
fino_same a b is = subst (λ (x : InoKey). same_key fino_form x b ≡ true) (sym is) (rw (strict_nat b.startino) refl)

pub key_others : (area : List ℕ) (i : ℕ) (k : InoKey) → length area ≡ 4040 → i < 505 → (j : ℕ) → j ≢ i → ino_key_at (with_ino_key area i k) j ≡ ino_key_at area j
unfolding key_startino_at with_ino_key
key_others area i k whole room j ne =
    rw (field_beside 4 area (4 * i) k.startino 4 (4 * j) (omega (arith, whole, room)) (elim (cases_lt j i) [ inl below ↦ inl (omega (arith, below)) | inr above ↦ inr (omega (arith, above, ne)) ])) refl

pub ino_pointers_stay : (area : List ℕ) (i : ℕ) (k : InoKey) → length area ≡ 4040 → i < 505 → (j : ℕ) → child_of Ino (with_ino_key area i k) j ≡ child_of Ino area j
unfolding with_ino_key
ino_pointers_stay area i k whole room j = child_stays Ino area 4 (4 * i) k.startino j (omega (arith, whole, room)) (omega (arith, room))

pub fino_pointers_stay : (area : List ℕ) (i : ℕ) (k : InoKey) → length area ≡ 4040 → i < 505 → (j : ℕ) → child_of Fino (with_ino_key area i k) j ≡ child_of Fino area j
unfolding with_ino_key
fino_pointers_stay area i k whole room j = child_stays Fino area 4 (4 * i) k.startino j (omega (arith, whole, room)) (omega (arith, room))
