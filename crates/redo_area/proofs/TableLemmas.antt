-- A table is read back as it was written, and its tests as they are asked.
use Rattle.std.proofs.Common.{◌≡◌, ◌≤◌, ◌<◌, ◌-◌, Bool, true, false, ℕ, zero, suc, ◌+◌, ◌*◌, ◌^◌, ◌&&◌, None, List, [], ◌∷◌, ◌++◌, length, take, drop, refl, sym, ◌∙◌, ap, subst, arith, append_assoc, length-append, length-drop, take-append-drop}
use Rattle.std.proofs.lemmas.List.{take_at, drop_at, take-append-le, length-take-le, drop-take, drop-drop, length-replicate}
use Rattle.std.specs.Prelude.{nat_lt, nat_le, ◌==◌}
use Rattle.std.proofs.lemmas.Bool.{eq-eqb}
use Rattle.std.proofs.lemmas.Bool.Decides.{nat_tests}
use Rattle.byteorder.specs.Endian.{big_number, big_bytes}
use Rattle.byteorder.specs.Numbers.{big_number-reads_back, big_from-take, length-bytes_high_first}
use Rattle.byte_fields.specs.Fields.{field, with_field}
use Rattle.byte_fields.specs.FirstFailing.{first_failing}
use Rattle.byte_fields.specs.Zeros.{zeros}
use Rattle.byte_fields.specs.declared.block.Block.{Block}
use Rattle.redo_area.specs.Area.{Misses}
use Rattle.redo_area.specs.declared.faults.RedoFault.TheVariants.{Count, Size, Place}
use Rattle.redo_area.specs.Table.{is_count, numbers, places, put_numbers, rises, table_bytes, table_count, table_fault, table_numbers, table_size}

pub is_lt : (a b : ℕ) → a < b → nat_lt a b ≡ true
is_lt a b lt = grind (arith, nat_tests)

pub not_lt : (a b : ℕ) → b ≤ a → nat_lt a b ≡ false
not_lt a b le = grind (arith, nat_tests)

from_lt : (a b : ℕ) → nat_lt a b ≡ true → a < b
from_lt a b e = grind (arith, nat_tests)

is_le : (a b : ℕ) → a ≤ b → nat_le a b ≡ true
is_le a b le = grind (arith, nat_tests)

from_le : (a b : ℕ) → nat_le a b ≡ true → a ≤ b
from_le a b e = grind (arith, nat_tests)

both_true : (x y : Bool) → (x && y) ≡ true → (x ≡ true) × (y ≡ true)
both_true true y e = (refl, e)
both_true false y e = cc e

-- the first of rising numbers, and those behind it
pub rises_first : (least size n : ℕ) (ns xs : List ℕ) → xs ≡ n ∷ ns → rises least size xs ≡ true → (least ≤ n) × (n < size) × (rises (n + 1) size ns ≡ true)
rises_first least size n ns xs is all =
    let first = both_true (nat_le least n) (nat_lt n size && rises (n + 1) size ns) (sym (ap (rises least size) is) ∙ all) in
    let second = both_true (nat_lt n size) (rises (n + 1) size ns) first.1 in
    (from_le least n first.0, from_lt n size second.0, second.1)

-- a number at its place
pub rises_more : (least size n : ℕ) (ns xs : List ℕ) → xs ≡ n ∷ ns → (nat_le least n && nat_lt n size) ≡ true → rises least size xs ≡ rises (n + 1) size ns
rises_more least size n ns xs is placed =
    ap (rises least size) is ∙ placed_more (nat_le least n) (nat_lt n size) (rises (n + 1) size ns) placed
  where
    placed_more : (x y z : Bool) → (x && y) ≡ true → (x && (y && z)) ≡ z
    placed_more true true z e = refl
    placed_more true false z e = cc e
    placed_more false y z e = cc e

-- and one that isn't
pub rises_no_more : (least size n : ℕ) (ns xs : List ℕ) → xs ≡ n ∷ ns → (nat_le least n && nat_lt n size) ≡ false → rises least size xs ≡ false
rises_no_more least size n ns xs is misplaced =
    ap (rises least size) is ∙ misplaced_more (nat_le least n) (nat_lt n size) (rises (n + 1) size ns) misplaced
  where
    misplaced_more : (x y z : Bool) → (x && y) ≡ false → (x && (y && z)) ≡ false
    misplaced_more true true z e = cc e
    misplaced_more true false z e = refl
    misplaced_more false y z e = refl

pub length_places : (ps : List (ℕ × Block)) → length (places ps) ≡ length ps
length_places [] = refl
length_places (p ∷ ps) = ap suc (length_places ps)

shorter : (n m : ℕ) (xs : List ℕ) → n ≤ m → m ≤ length xs → take n (take m xs) ≡ take n xs
shorter n m xs le room =
    sym (take-append-le n (take m xs) (drop m xs) (omega (arith, length-take-le m xs room))) ∙ ap (take n) (take-append-drop m xs)

module _ (n : ℕ) (bytes : List ℕ) (at v : ℕ) (room : at + n ≤ length bytes) where
  front : length (take at bytes) ≡ at
  front = length-take-le at bytes (omega (arith, room))

  written_front : (k : ℕ) → k ≤ at → take k (with_field n bytes at v) ≡ take k bytes
  written_front k le = take-append-le k (take at bytes) (big_bytes n v ++ drop (at + n) bytes) (omega (arith, front, le)) ∙ shorter k at bytes le (omega (arith, room))

  written_rest : drop at (with_field n bytes at v) ≡ big_bytes n v ++ drop (at + n) bytes
  written_rest = drop_at (take at bytes) (big_bytes n v ++ drop (at + n) bytes) at front

  written_part : take (at + n) (with_field n bytes at v) ≡ take at bytes ++ big_bytes n v
  written_part =
      ap (take (at + n)) (sym (append_assoc (take at bytes) (big_bytes n v) (drop (at + n) bytes)))
      ∙ take_at (take at bytes ++ big_bytes n v) (drop (at + n) bytes) (at + n) (omega (arith, length-append (take at bytes) (big_bytes n v), front, length-bytes_high_first n v))

  pub written_length : length (with_field n bytes at v) ≡ length bytes
  written_length = omega (arith, length-append (take at bytes) (big_bytes n v ++ drop (at + n) bytes), length-append (big_bytes n v) (drop (at + n) bytes), front, length-bytes_high_first n v, length-drop (at + n) bytes, room)

  reads_back : v < 256 ^ n → field n (with_field n bytes at v) at ≡ v
  reads_back small = ap (big_number n) written_rest ∙ big_number-reads_back n v (drop (at + n) bytes) small

-- a field shows only the bytes up to its end
same_field : (n at : ℕ) (xs ys : List ℕ) → take (at + n) xs ≡ take (at + n) ys → field n xs at ≡ field n ys at
same_field n at xs ys same =
    sym (big_from-take 0 n n (drop at xs) (omega arith))
    ∙ ap (big_number n) (sym (drop-take at n xs) ∙ ap (drop at) same ∙ drop-take at n ys)
    ∙ big_from-take 0 n n (drop at ys) (omega arith)

numbers_front : (ns : List ℕ) (at : ℕ) (bytes : List ℕ) → at + 8 * length ns ≤ length bytes → (k : ℕ) → k ≤ at → take k (put_numbers ns at bytes) ≡ take k bytes
unfolding put_numbers
numbers_front [] at bytes room k le = refl
numbers_front (n ∷ ns) at bytes room k le =
    numbers_front ns (at + 8) (with_field 8 bytes at n) (omega (arith, room, written_length 8 bytes at n (omega (arith, room)))) k (omega (arith, le))
    ∙ written_front 8 bytes at n (omega (arith, room)) k le

numbers_back : (ns : List ℕ) (at least size : ℕ) (bytes : List ℕ) → at + 8 * length ns ≤ length bytes → rises least size ns ≡ true → size < 2 ^ 64 → numbers (length ns) (drop at (put_numbers ns at bytes)) ≡ ns
unfolding put_numbers
numbers_back [] at least size bytes room rise small = refl
numbers_back (n ∷ ns) at least size bytes room rise small =
    let fits : at + 8 ≤ length bytes = omega (arith, room) in
    let here = with_field 8 bytes at n in
    let all = put_numbers ns (at + 8) here in
    let left : at + 8 + 8 * length ns ≤ length here = omega (arith, room, written_length 8 bytes at n fits) in
    let rest = drop (at + 8) all in
    let first = rises_first least size n ns (n ∷ ns) refl rise in
    let whole : all ≡ take at bytes ++ (big_bytes 8 n ++ rest) =
    sym (take-append-drop (at + 8) all)
    ∙ ap (λ (l : List ℕ). l ++ rest) (numbers_front ns (at + 8) here left (at + 8) (omega arith) ∙ written_part 8 bytes at n fits)
    ∙ append_assoc (take at bytes) (big_bytes 8 n) rest in
    let after : drop at all ≡ big_bytes 8 n ++ rest = ap (drop at) whole ∙ drop_at (take at bytes) (big_bytes 8 n ++ rest) at (length-take-le at bytes (omega (arith, room))) in
    let number : big_number 8 (drop at all) ≡ n = ap (big_number 8) after ∙ big_number-reads_back 8 n rest (omega (arith, first.1, small)) in
    let others : drop 8 (drop at all) ≡ rest = ap (drop 8) after ∙ drop_at (big_bytes 8 n) rest 8 (length-bytes_high_first 8 n) in
    λ i. number i ∷ (ap (numbers (length ns)) others ∙ numbers_back ns (at + 8) (n + 1) size here left first.2 small) i

zeros_long : length zeros ≡ 4096
unfolding zeros
zeros_long = length-replicate {A = ℕ} 4096 0

module _ (ns : List ℕ) (size : ℕ) (few : length ns ≤ 160) (rise : rises 0 size ns ≡ true) (small : size < 2 ^ 64) where
  abbrev counted : List ℕ
  counted = with_field 4 (with_field 8 zeros 0 size) 8 (length ns)

  long_sized : length (with_field 8 zeros 0 size) ≡ 4096
  long_sized = written_length 8 zeros 0 size (omega (arith, zeros_long)) ∙ zeros_long

  long_counted : length counted ≡ 4096
  long_counted = written_length 4 (with_field 8 zeros 0 size) 8 (length ns) (omega (arith, long_sized)) ∙ long_sized

  room : 16 + 8 * length ns ≤ length counted
  room = omega (arith, long_counted, few)

  pub count_read : table_count (table_bytes size ns) ≡ length ns
  unfolding table_count table_bytes
  count_read =
      same_field 4 8 (put_numbers ns 16 counted) counted (numbers_front ns 16 counted room 12 (omega arith))
      ∙ reads_back 4 (with_field 8 zeros 0 size) 8 (length ns) (omega (arith, long_sized)) (omega (arith, few))

  pub size_read : table_size (table_bytes size ns) ≡ size
  unfolding table_size table_bytes
  size_read =
      same_field 8 0 (put_numbers ns 16 counted) (with_field 8 zeros 0 size)
      (numbers_front ns 16 counted room 8 (omega arith) ∙ written_front 4 (with_field 8 zeros 0 size) 8 (length ns) (omega (arith, long_sized)) 8 (omega arith))
      ∙ reads_back 8 zeros 0 size (omega (arith, zeros_long)) (omega (arith, small))

  pub numbers_read : table_numbers (table_bytes size ns) ≡ ns
  unfolding table_numbers table_bytes
  numbers_read = ap (λ (n : ℕ). numbers n (drop 16 (table_bytes size ns))) count_read ∙ numbers_back ns 16 0 size counted room rise small

  pub count_passes : 0 < length ns → is_count (length ns) ≡ true
  unfolding is_count
  count_passes some = rw (is_lt 0 (length ns) some) (is_le (length ns) 160 few)

  -- the table of a batch has no fault
  pub table_sound : 0 < length ns → table_fault size (table_bytes size ns) ≡ None
  unfolding table_fault
  table_sound some =
      passing (is_count (table_count (table_bytes size ns))) (table_size (table_bytes size ns) == size) (rises 0 size (table_numbers (table_bytes size ns)))
      (ap is_count count_read ∙ count_passes some) (eq-eqb (table_size (table_bytes size ns)) size size_read) (ap (rises 0 size) numbers_read ∙ rise)
    where
      passing : (a b c : Bool) → a ≡ true → b ≡ true → c ≡ true → first_failing ((a, Count) ∷ (b, Size) ∷ (c, Place) ∷ []) ≡ None
      passing true true true p q r = refl
      passing true true false p q r = cc r
      passing true false c p q r = cc q
      passing false b c p q r = cc p

-- one number, and those behind it
pub numbers_more : (left at : ℕ) (bytes : List ℕ) → 0 < left → numbers left (drop at bytes) ≡ field 8 bytes at ∷ numbers (left - 1) (drop (at + 8) bytes)
numbers_more zero at bytes pos = absurd (omega (arith, pos))
numbers_more (suc n) at bytes pos =
    let one_less : n ≡ suc n - 1 = omega arith in
    λ i. field 8 bytes at ∷ (ap (numbers n) (drop-drop 8 at bytes) ∙ ap (λ (k : ℕ). numbers k (drop (at + 8) bytes)) one_less) i

-- the first of them isn't missed
pub hits_first : (n : ℕ) (ns xs : List ℕ) → xs ≡ n ∷ ns → Misses xs n → ⊥
hits_first n ns xs is missed =
    let out : Misses (n ∷ ns) n = subst (λ (l : List ℕ). Misses l n) is missed in
    let here = eq-eqb n n refl in
    cc (here, out.0)

clean : (a b c : Bool) → first_failing ((a, Count) ∷ (b, Size) ∷ (c, Place) ∷ []) ≡ None → (a ≡ true) × (c ≡ true)
clean true true true e = (refl, refl)
clean true true false e = cc e
clean true false c e = cc e
clean false b c e = cc e

few_when : (n : ℕ) → is_count n ≡ true → n ≤ 160
unfolding is_count
few_when n e = from_le n 160 (both_true (nat_lt 0 n) (nat_le n 160) e).1

-- a table without a fault
pub sound_table : (size : ℕ) (bytes : List ℕ) → table_fault size bytes ≡ None → (table_count bytes ≤ 160) × (rises 0 size (table_numbers bytes) ≡ true)
unfolding table_fault
sound_table size bytes none =
    let both = clean (is_count (table_count bytes)) (table_size bytes == size) (rises 0 size (table_numbers bytes)) none in
    (few_when (table_count bytes) both.0, both.1)
