-- Records and keys are read again as they were written, and leave what lies beside them.
use Rattle.std.proofs.Common.{◌≡◌, ◌≢◌, ℕ, ◌<◌, ◌≤◌, ◌+◌, ◌*◌, ◌^◌, List, length, arith, refl, ◌∙◌, inl, inr, ap}
use Rattle.std.specs.Prelude.{◌⊎◌}
use Rattle.std.proofs.lemmas.Bool.{cases_lt}
use Rattle.byte_fields.specs.Fields.{field, with_field}
use Rattle.sblock.proofs.FieldLemmas.{field_taken, field_before, field_beside, field_length}
use Rattle.rmap_recs.specs.Rmap.{rec_in, rec_at, with_rec, key_in, with_key, cleared}
use Rattle.rmap_recs.specs.Words.{key_word}
use Rattle.rmap_recs.specs.declared.records.RmapRec.{RmapRec}
use Rattle.rmap_recs.specs.declared.records.Key.{Key}
use Rattle.rmap_recs.proofs.WordLemmas.{key_word_fits, key_word_twice}

-- the n bytes at one place don't meet the m bytes at the other
abbrev pub IsApart : ℕ → ℕ → ℕ → ℕ → Type 0
IsApart place n to m = (to + m ≤ place) ⊎ (place + n ≤ to)

-- nor do parts of them
pub within : (place n to m p k q l : ℕ) → place ≤ p → p + k ≤ place + n → to ≤ q → q + l ≤ to + m → IsApart place n to m → IsApart p k q l
within place n to m p k q l a b c d (inl h) = inl (omega arith)
within place n to m p k q l a b c d (inr h) = inr (omega arith)

module _ (area : List ℕ) (place : ℕ) (r : RmapRec) (room : place + 24 ≤ length area) where
  one : List ℕ
  one = with_field 4 area place r.start

  two : List ℕ
  two = with_field 4 one (place + 4) r.count

  three : List ℕ
  three = with_field 8 two (place + 8) r.owner

  one_long : length one ≡ length area
  unfolding one
  one_long = field_length 4 area place r.start (omega (arith, room))

  two_long : length two ≡ length area
  unfolding two
  two_long = field_length 4 one (place + 4) r.count (omega (arith, room, one_long)) ∙ one_long

  three_long : length three ≡ length area
  unfolding three
  three_long = field_length 8 two (place + 8) r.owner (omega (arith, room, two_long)) ∙ two_long

  is_with_rec : with_rec area place r ≡ with_field 8 three (place + 16) r.word
  unfolding with_rec one two three
  is_with_rec = refl

  pub rec_length : length (with_rec area place r) ≡ length area
  rec_length = ap length is_with_rec ∙ field_length 8 three (place + 16) r.word (omega (arith, room, three_long)) ∙ three_long

  pub rec_beside : (m to : ℕ) → IsApart place 24 to m → field m (with_rec area place r) to ≡ field m area to
  unfolding one two three
  rec_beside m to apart =
      ap (λ (xs : List ℕ). field m xs to) is_with_rec
      ∙ field_beside 8 three (place + 16) r.word m to (omega (arith, room, three_long)) (within place 24 to m (place + 16) 8 to m (omega arith) (omega arith) (omega arith) (omega arith) apart)
      ∙ field_beside 8 two (place + 8) r.owner m to (omega (arith, room, two_long)) (within place 24 to m (place + 8) 8 to m (omega arith) (omega arith) (omega arith) (omega arith) apart)
      ∙ field_beside 4 one (place + 4) r.count m to (omega (arith, room, one_long)) (within place 24 to m (place + 4) 4 to m (omega arith) (omega arith) (omega arith) (omega arith) apart)
      ∙ field_beside 4 area place r.start m to (omega (arith, room)) (within place 24 to m place 4 to m (omega arith) (omega arith) (omega arith) (omega arith) apart)

  word_taken : r.word < 2 ^ 64 → field 8 (with_rec area place r) (place + 16) ≡ r.word
  word_taken fits = ap (λ (xs : List ℕ). field 8 xs (place + 16)) is_with_rec ∙ field_taken 8 three (place + 16) r.word (omega (arith, room, three_long)) fits

  owner_taken : r.owner < 2 ^ 64 → field 8 (with_rec area place r) (place + 8) ≡ r.owner
  unfolding three
  owner_taken fits =
      ap (λ (xs : List ℕ). field 8 xs (place + 8)) is_with_rec
      ∙ field_before 8 three (place + 16) r.word (omega (arith, room, three_long)) 8 (place + 8) (omega arith)
      ∙ field_taken 8 two (place + 8) r.owner (omega (arith, room, two_long)) fits

  count_taken : r.count < 2 ^ 32 → field 4 (with_rec area place r) (place + 4) ≡ r.count
  unfolding two three
  count_taken fits =
      ap (λ (xs : List ℕ). field 4 xs (place + 4)) is_with_rec
      ∙ field_before 8 three (place + 16) r.word (omega (arith, room, three_long)) 4 (place + 4) (omega arith)
      ∙ field_before 8 two (place + 8) r.owner (omega (arith, room, two_long)) 4 (place + 4) (omega arith)
      ∙ field_taken 4 one (place + 4) r.count (omega (arith, room, one_long)) fits

  start_taken : r.start < 2 ^ 32 → field 4 (with_rec area place r) place ≡ r.start
  unfolding one two three
  start_taken fits =
      ap (λ (xs : List ℕ). field 4 xs place) is_with_rec
      ∙ field_before 8 three (place + 16) r.word (omega (arith, room, three_long)) 4 place (omega arith)
      ∙ field_before 8 two (place + 8) r.owner (omega (arith, room, two_long)) 4 place (omega arith)
      ∙ field_before 4 one (place + 4) r.count (omega (arith, room, one_long)) 4 place (omega arith)
      ∙ field_taken 4 area place r.start (omega (arith, room)) fits

  rec_in_taken : r.start < 2 ^ 32 → r.count < 2 ^ 32 → r.owner < 2 ^ 64 → r.word < 2 ^ 64 → rec_in (with_rec area place r) place ≡ r
  unfolding rec_in
  rec_in_taken a b c d = λ i. record { start = start_taken a i; count = count_taken b i; owner = owner_taken c i; word = word_taken d i }

module _ (area : List ℕ) (place : ℕ) (k : Key) (room : place + 20 ≤ length area) where
  key_one : List ℕ
  key_one = with_field 4 area place k.start

  key_two : List ℕ
  key_two = with_field 8 key_one (place + 4) k.owner

  key_one_long : length key_one ≡ length area
  unfolding key_one
  key_one_long = field_length 4 area place k.start (omega (arith, room))

  key_two_long : length key_two ≡ length area
  unfolding key_two
  key_two_long = field_length 8 key_one (place + 4) k.owner (omega (arith, room, key_one_long)) ∙ key_one_long

  is_with_key : with_key area place k ≡ with_field 8 key_two (place + 12) (key_word k.word)
  unfolding with_key key_one key_two
  is_with_key = refl

  pub key_length : length (with_key area place k) ≡ length area
  key_length = ap length is_with_key ∙ field_length 8 key_two (place + 12) (key_word k.word) (omega (arith, room, key_two_long)) ∙ key_two_long

  pub key_beside : (m to : ℕ) → IsApart place 20 to m → field m (with_key area place k) to ≡ field m area to
  unfolding key_one key_two
  key_beside m to apart =
      ap (λ (xs : List ℕ). field m xs to) is_with_key
      ∙ field_beside 8 key_two (place + 12) (key_word k.word) m to (omega (arith, room, key_two_long)) (within place 20 to m (place + 12) 8 to m (omega arith) (omega arith) (omega arith) (omega arith) apart)
      ∙ field_beside 8 key_one (place + 4) k.owner m to (omega (arith, room, key_one_long)) (within place 20 to m (place + 4) 8 to m (omega arith) (omega arith) (omega arith) (omega arith) apart)
      ∙ field_beside 4 area place k.start m to (omega (arith, room)) (within place 20 to m place 4 to m (omega arith) (omega arith) (omega arith) (omega arith) apart)

  key_word_taken : k.word < 2 ^ 64 → key_word (field 8 (with_key area place k) (place + 12)) ≡ key_word k.word
  key_word_taken fits =
      ap key_word (ap (λ (xs : List ℕ). field 8 xs (place + 12)) is_with_key
      ∙ field_taken 8 key_two (place + 12) (key_word k.word) (omega (arith, room, key_two_long)) (key_word_fits k.word fits))
      ∙ key_word_twice k.word

  key_owner_taken : k.owner < 2 ^ 64 → field 8 (with_key area place k) (place + 4) ≡ k.owner
  unfolding key_two
  key_owner_taken fits =
      ap (λ (xs : List ℕ). field 8 xs (place + 4)) is_with_key
      ∙ field_before 8 key_two (place + 12) (key_word k.word) (omega (arith, room, key_two_long)) 8 (place + 4) (omega arith)
      ∙ field_taken 8 key_one (place + 4) k.owner (omega (arith, room, key_one_long)) fits

  key_start_taken : k.start < 2 ^ 32 → field 4 (with_key area place k) place ≡ k.start
  unfolding key_one key_two
  key_start_taken fits =
      ap (λ (xs : List ℕ). field 4 xs place) is_with_key
      ∙ field_before 8 key_two (place + 12) (key_word k.word) (omega (arith, room, key_two_long)) 4 place (omega arith)
      ∙ field_before 8 key_one (place + 4) k.owner (omega (arith, room, key_one_long)) 4 place (omega arith)
      ∙ field_taken 4 area place k.start (omega (arith, room)) fits

  -- a key is read again without its unwritten flag
  pub key_in_taken : k.start < 2 ^ 32 → k.owner < 2 ^ 64 → k.word < 2 ^ 64 → key_in (with_key area place k) place ≡ cleared k
  unfolding key_in
  key_in_taken a b c = λ i. record { start = key_start_taken a i; owner = key_owner_taken b i; word = key_word_taken c i }

-- two records at different places of a leaf don't meet
apart_from : (i j : ℕ) → j ≢ i → IsApart (24 * i) 24 (24 * j) 24
apart_from i j other = elim (cases_lt j i) [ inl below ↦ inl (omega (arith, below)) | inr above ↦ inr (omega (arith, above, other)) ]

pub rec_taken : (area : List ℕ) (i : ℕ) (r : RmapRec) → length area ≡ 4040 → i < 168 → r.start < 2 ^ 32 → r.count < 2 ^ 32 → r.owner < 2 ^ 64 → r.word < 2 ^ 64 → rec_at (with_rec area (24 * i) r) i ≡ r
rec_taken area i r whole room a b c d = rec_in_taken area (24 * i) r (omega (arith, whole, room)) a b c d

pub rec_others : (area : List ℕ) (i : ℕ) (r : RmapRec) → length area ≡ 4040 → i < 168 → (j : ℕ) → j ≢ i → rec_at (with_rec area (24 * i) r) j ≡ rec_at area j
unfolding rec_in
rec_others area i r whole room j other =
    let lies : 24 * i + 24 ≤ length area = omega (arith, whole, room) in
    let apart = apart_from i j other in
    λ n. record {
      start = rec_beside area (24 * i) r lies 4 (24 * j) (within (24 * i) 24 (24 * j) 24 (24 * i) 24 (24 * j) 4 (omega arith) (omega arith) (omega arith) (omega arith) apart) n;
      count = rec_beside area (24 * i) r lies 4 (24 * j + 4) (within (24 * i) 24 (24 * j) 24 (24 * i) 24 (24 * j + 4) 4 (omega arith) (omega arith) (omega arith) (omega arith) apart) n;
      owner = rec_beside area (24 * i) r lies 8 (24 * j + 8) (within (24 * i) 24 (24 * j) 24 (24 * i) 24 (24 * j + 8) 8 (omega arith) (omega arith) (omega arith) (omega arith) apart) n;
      word = rec_beside area (24 * i) r lies 8 (24 * j + 16) (within (24 * i) 24 (24 * j) 24 (24 * i) 24 (24 * j + 16) 8 (omega arith) (omega arith) (omega arith) (omega arith) apart) n;
    }

-- a key that lies beside one that is written stays
pub key_stays : (area : List ℕ) (place to : ℕ) (k : Key) → place + 20 ≤ length area → IsApart place 20 to 20 → key_in (with_key area place k) to ≡ key_in area to
unfolding key_in
key_stays area place to k lies apart =
    λ n. record {
      start = key_beside area place k lies 4 to (within place 20 to 20 place 20 to 4 (omega arith) (omega arith) (omega arith) (omega arith) apart) n;
      owner = key_beside area place k lies 8 (to + 4) (within place 20 to 20 place 20 (to + 4) 8 (omega arith) (omega arith) (omega arith) (omega arith) apart) n;
      word = key_word (key_beside area place k lies 8 (to + 12) (within place 20 to 20 place 20 (to + 12) 8 (omega arith) (omega arith) (omega arith) (omega arith) apart) n);
    }
