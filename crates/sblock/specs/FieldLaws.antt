-- A field that was written is read again, and a field beside it is read as before.
use Rattle.std.proofs.Common.{◌≡◌, ◌≤◌, ◌<◌, ◌-◌, ℕ, ◌+◌, ◌^◌, List, ◌++◌, length, take, drop, refl, sym, ◌∙◌, ap, inl, inr, arith, append_assoc, length-append, length-drop, take-append-drop}
use Rattle.std.specs.Prelude.{◌⊎◌}
use Rattle.std.proofs.lemmas.List.{drop_at, take-append-le, length-take-le, drop-take, drop-drop}
use Rattle.byteorder.specs.Endian.{big_number, big_bytes}
use Rattle.byteorder.specs.Numbers.{big_number-reads_back, big_from-take, length-bytes_high_first}
use Rattle.byte_fields.specs.Fields.{field, with_field}

take_take : (n m : ℕ) (xs : List ℕ) → n ≤ m → m ≤ length xs → take n (take m xs) ≡ take n xs
take_take n m xs le room =
    sym (take-append-le n (take m xs) (drop m xs) (omega (arith, length-take-le m xs room))) ∙ ap (take n) (take-append-drop m xs)

-- a field shows only the bytes up to its end
same_field : (n at : ℕ) (xs ys : List ℕ) → take (at + n) xs ≡ take (at + n) ys → field n xs at ≡ field n ys at
same_field n at xs ys same =
    sym (big_from-take 0 n n (drop at xs) (omega arith))
    ∙ ap (big_number n) (sym (drop-take at n xs) ∙ ap (drop at) same ∙ drop-take at n ys)
    ∙ big_from-take 0 n n (drop at ys) (omega arith)

module _ (n : ℕ) (bytes : List ℕ) (at v : ℕ) (room : at + n ≤ length bytes) where
  front : length (take at bytes) ≡ at
  front = length-take-le at bytes (omega (arith, room))

  written_rest : drop at (with_field n bytes at v) ≡ big_bytes n v ++ drop (at + n) bytes
  written_rest = drop_at (take at bytes) (big_bytes n v ++ drop (at + n) bytes) at front

  written_end : drop (at + n) (with_field n bytes at v) ≡ drop (at + n) bytes
  written_end =
      ap (drop (at + n)) (sym (append_assoc (take at bytes) (big_bytes n v) (drop (at + n) bytes)))
      ∙ drop_at (take at bytes ++ big_bytes n v) (drop (at + n) bytes) (at + n) (omega (arith, length-append (take at bytes) (big_bytes n v), front, length-bytes_high_first n v))

  pub field_taken : v < 256 ^ n → field n (with_field n bytes at v) at ≡ v
  field_taken small = ap (big_number n) written_rest ∙ big_number-reads_back n v (drop (at + n) bytes) small

  pub field_before : (m to : ℕ) → to + m ≤ at → field m (with_field n bytes at v) to ≡ field m bytes to
  field_before m to le =
      same_field m to (with_field n bytes at v) bytes
      (take-append-le (to + m) (take at bytes) (big_bytes n v ++ drop (at + n) bytes) (omega (arith, front, le)) ∙ take_take (to + m) at bytes le (omega (arith, room)))

  pub field_behind : (m to : ℕ) → at + n ≤ to → field m (with_field n bytes at v) to ≡ field m bytes to
  field_behind m to le =
      let far : (at + n) + (to - (at + n)) ≡ to = omega (arith, le) in
      let past : (xs : List ℕ) → drop to xs ≡ drop (to - (at + n)) (drop (at + n) xs) = λ xs. rw (drop-drop (to - (at + n)) (at + n) xs, far) refl in
      ap (big_number m) (past (with_field n bytes at v) ∙ ap (drop (to - (at + n))) written_end ∙ sym (past bytes))

  pub field_length : length (with_field n bytes at v) ≡ length bytes
  field_length = omega (arith, length-append (take at bytes) (big_bytes n v ++ drop (at + n) bytes), length-append (big_bytes n v) (drop (at + n) bytes), front, length-bytes_high_first n v, length-drop (at + n) bytes, room)

-- the same for a field on either side
pub field_beside : (n : ℕ) (bytes : List ℕ) (at v m to : ℕ) → at + n ≤ length bytes → (to + m ≤ at) ⊎ (at + n ≤ to) → field m (with_field n bytes at v) to ≡ field m bytes to
field_beside n bytes at v m to room apart =
    elim apart [ inl before ↦ field_before n bytes at v room m to before | inr behind ↦ field_behind n bytes at v room m to behind ]
