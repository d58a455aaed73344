-- The two keys of an entry of a node, after they were written.
use Rattle.std.proofs.Common.{◌≡◌, ◌≢◌, ℕ, ◌<◌, ◌≤◌, ◌+◌, ◌*◌, List, length, true, false, arith, refl, ◌∙◌, inl, inr, ap}
use Rattle.std.specs.Prelude.{nat_lt}
use Rattle.std.proofs.lemmas.Bool.{cases_lt}
use Rattle.byte_fields.specs.Fields.{with_field}
use Rattle.sblock.specs.Area.{child_of}
use Rattle.sblock.specs.Form.{same_key}
use Rattle.sblock.specs.declared.kind.Kind.TheVariants.{Rmap}
use Rattle.sblock.proofs.AreaLemmas.{child_stays}
use Rattle.sblock.proofs.FieldLemmas.{field_length}
use Rattle.rmap_recs.specs.Rmap.{rmap_form, key_in, with_key, with_keys, cleared, low_key_at, high_key_at, is_first, is_key_before}
use Rattle.rmap_recs.specs.RmapLaws.{lawful_rmap}
use Rattle.rmap_recs.specs.Words.{key_word}
use Rattle.rmap_recs.specs.declared.records.Key.{Key}
use Rattle.rmap_recs.proofs.PlaceLemmas.{IsApart, within, key_length, key_stays}
use Rattle.rmap_recs.proofs.WordLemmas.{key_word_twice}

read_after : (k : Key) → is_key_before (cleared k) k ≡ false
unfolding is_key_before
read_after k = ap (λ (n : ℕ). is_first k.start k.start (is_first k.owner k.owner (nat_lt n (key_word k.word)))) (key_word_twice k.word) ∙ lawful_rmap.strict k

read_before : (k : Key) → is_key_before k (cleared k) ≡ false
unfolding is_key_before
read_before k = ap (λ (n : ℕ). is_first k.start k.start (is_first k.owner k.owner (nat_lt (key_word k.word) n))) (key_word_twice k.word) ∙ lawful_rmap.strict k

-- a key as it is read is the same in the order
pub read_same : (read k : Key) → read ≡ cleared k → same_key rmap_form read k ≡ true
read_same read k is = ap (λ (a : Key). same_key rmap_form a k) is ∙ rw (read_after k, read_before k) refl

pub low_stays : (area : List ℕ) (i : ℕ) (high : Key) → length area ≡ 4040 → i < 91 → key_in (with_key area (40 * i + 20) high) (40 * i) ≡ key_in area (40 * i)
low_stays area i high whole room = key_stays area (40 * i + 20) (40 * i) high (omega (arith, whole, room)) (inl (omega arith))

apart_from : (i j : ℕ) → j ≢ i → IsApart (40 * i) 40 (40 * j) 40
apart_from i j other = elim (cases_lt j i) [ inl below ↦ inl (omega (arith, below)) | inr above ↦ inr (omega (arith, above, other)) ]

pub low_others : (area : List ℕ) (i : ℕ) (low high : Key) → length area ≡ 4040 → i < 91 → (j : ℕ) → j ≢ i → low_key_at (with_keys area i low high) j ≡ low_key_at area j
low_others area i low high whole room j other =
    let long = key_length area (40 * i) low (omega (arith, whole, room)) in
    let apart = apart_from i j other in
    key_stays (with_key area (40 * i) low) (40 * i + 20) (40 * j) high (omega (arith, long, whole, room)) (within (40 * i) 40 (40 * j) 40 (40 * i + 20) 20 (40 * j) 20 (omega arith) (omega arith) (omega arith) (omega arith) apart)
    ∙ key_stays area (40 * i) (40 * j) low (omega (arith, whole, room)) (within (40 * i) 40 (40 * j) 40 (40 * i) 20 (40 * j) 20 (omega arith) (omega arith) (omega arith) (omega arith) apart)

pub high_others : (area : List ℕ) (i : ℕ) (low high : Key) → length area ≡ 4040 → i < 91 → (j : ℕ) → j ≢ i → high_key_at (with_keys area i low high) j ≡ high_key_at area j
high_others area i low high whole room j other =
    let long = key_length area (40 * i) low (omega (arith, whole, room)) in
    let apart = apart_from i j other in
    key_stays (with_key area (40 * i) low) (40 * i + 20) (40 * j + 20) high (omega (arith, long, whole, room)) (within (40 * i) 40 (40 * j) 40 (40 * i + 20) 20 (40 * j + 20) 20 (omega arith) (omega arith) (omega arith) (omega arith) apart)
    ∙ key_stays area (40 * i) (40 * j + 20) low (omega (arith, whole, room)) (within (40 * i) 40 (40 * j) 40 (40 * i) 20 (40 * j + 20) 20 (omega arith) (omega arith) (omega arith) (omega arith) apart)

-- a pointer stays where a key is written
child_aside : (area : List ℕ) (place : ℕ) (k : Key) → length area ≡ 4040 → place + 20 ≤ 3640 → (j : ℕ) → child_of Rmap (with_key area place k) j ≡ child_of Rmap area j
unfolding with_key
child_aside area place k whole lies j =
    let one = field_length 4 area place k.start (omega (arith, whole, lies)) in
    let two = field_length 8 (with_field 4 area place k.start) (place + 4) k.owner (omega (arith, one, whole, lies)) in
    child_stays Rmap (with_field 8 (with_field 4 area place k.start) (place + 4) k.owner) 8 (place + 12) (key_word k.word) j (omega (arith, two, one, whole, lies)) (omega (arith, lies))
    ∙ child_stays Rmap (with_field 4 area place k.start) 8 (place + 4) k.owner j (omega (arith, one, whole, lies)) (omega (arith, lies))
    ∙ child_stays Rmap area 4 place k.start j (omega (arith, whole, lies)) (omega (arith, lies))

pub pointers_stay : (area : List ℕ) (i : ℕ) (low high : Key) → length area ≡ 4040 → i < 91 → (j : ℕ) → child_of Rmap (with_keys area i low high) j ≡ child_of Rmap area j
pointers_stay area i low high whole room j =
    let long = key_length area (40 * i) low (omega (arith, whole, room)) in
    child_aside (with_key area (40 * i) low) (40 * i + 20) high (omega (arith, long, whole)) (omega (arith, room)) j
    ∙ child_aside area (40 * i) low whole (omega (arith, room)) j
