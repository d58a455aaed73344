-- What stands in a list of bytes after some of them were written over.
use Rattle.std.proofs.Common.{◌≡◌, ℕ, ◌+◌, ◌-◌, ◌^◌, ◌<◌, ◌≤◌, ◌⊎◌, inl, inr, List, ◌++◌, length, take, drop, sym, ap, ◌∙◌, arith, length-append, length-drop}
use Rattle.std.specs.List.{splice}
use Rattle.std.proofs.lemmas.List.{take_at, drop_at, drop-drop, drop-take, take-take, take-append-le, length-take-le}
use Rattle.byteorder.specs.Endian.{big_bytes, little_bytes, big_from, little_from}
use Rattle.byteorder.specs.Numbers.{big_from-take, big_number-reads_back, little_number-reads_back, length-bytes_high_first, length-bytes_low_first}
use Rattle.byte_fields.specs.Fields.{field, low_field}

-- bytes xs, of which those from a on, below e, become new
pub record Written (xs : List ℕ) (a e : ℕ) (new : List ℕ) : Type 0 where
  pub order : a ≤ e
  pub inside : e ≤ length xs
  pub exact : length new ≡ e - a

pub splice_length : (xs : List ℕ) (a e : ℕ) (new : List ℕ) → Written xs a e new → length (splice xs a e new) ≡ length xs
splice_length xs a e new w =
    let t = length-take-le a xs (omega (arith, w.order, w.inside)) in
    let d = length-drop e xs in
    simp (length-append, t, d) (omega (arith, w.exact, w.order, w.inside))

-- before the written bytes
pub front_stays : (xs : List ℕ) (a e : ℕ) (new : List ℕ) → Written xs a e new → (n : ℕ) → n ≤ a → take n (splice xs a e new) ≡ take n xs
front_stays xs a e new w n h =
    let t = length-take-le a xs (omega (arith, w.order, w.inside)) in
    take-append-le n (take a xs) (new ++ drop e xs) (omega arith) ∙ take-take n a xs h

-- from the written bytes on
written_on : (xs : List ℕ) (a e : ℕ) (new : List ℕ) → Written xs a e new → drop a (splice xs a e new) ≡ new ++ drop e xs
written_on xs a e new w = drop_at (take a xs) (new ++ drop e xs) a (length-take-le a xs (omega (arith, w.order, w.inside)))

-- behind the written bytes
pub back_stays : (xs : List ℕ) (a e : ℕ) (new : List ℕ) → Written xs a e new → (n : ℕ) → e ≤ n → drop n (splice xs a e new) ≡ drop n xs
back_stays xs a e new w n h =
    let k : a + (e - a) ≡ e = omega (arith, w.order) in
    let m : e + (n - e) ≡ n = omega arith in
    let on : drop (e - a) (drop a (splice xs a e new)) ≡ drop e xs = ap (drop (e - a)) (written_on xs a e new w) ∙ drop_at new (drop e xs) (e - a) w.exact in
    let to_end : drop e (splice xs a e new) ≡ drop e xs = rw (drop-drop, k) at on in
    rw (drop-drop, drop-drop, m) at (ap (drop (n - e)) to_end)

pub part_there : (xs : List ℕ) (a e : ℕ) (new : List ℕ) → Written xs a e new → (n : ℕ) → n ≡ e - a → take n (drop a (splice xs a e new)) ≡ new
part_there xs a e new w n h = ap (take n) (written_on xs a e new w) ∙ take_at new (drop e xs) n (w.exact ∙ sym h)

-- bytes beside the written ones
pub part_stays : (xs : List ℕ) (a e : ℕ) (new : List ℕ) → Written xs a e new → (at n : ℕ) → (at + n ≤ a) ⊎ (e ≤ at) → take n (drop at (splice xs a e new)) ≡ take n (drop at xs)
part_stays xs a e new w at n apart =
    elim apart [
      | inl before ↦ sym (drop-take at n (splice xs a e new)) ∙ (ap (drop at) (front_stays xs a e new w (at + n) before) ∙ drop-take at n xs)
      | inr behind ↦ ap (take n) (back_stays xs a e new w at behind)
    ]

-- a number is that of its own bytes
pub field_of_part : (n : ℕ) (xs : List ℕ) (at : ℕ) → field n xs at ≡ big_from 0 n (take n (drop at xs))
field_of_part n xs at = sym (big_from-take 0 n n (drop at xs) (omega arith))

pub field_stays : (xs : List ℕ) (a e : ℕ) (new : List ℕ) → Written xs a e new → (n at : ℕ) → (at + n ≤ a) ⊎ (e ≤ at) → field n (splice xs a e new) at ≡ field n xs at
field_stays xs a e new w n at apart =
    field_of_part n (splice xs a e new) at ∙ (ap (big_from 0 n) (part_stays xs a e new w at n apart) ∙ sym (field_of_part n xs at))

pub field_there : (n : ℕ) (xs : List ℕ) (a value : ℕ) → a + n ≤ length xs → value < 256 ^ n → field n (splice xs a (a + n) (big_bytes n value)) a ≡ value
field_there n xs a value room fits =
    let wide : a + n - a ≡ n = omega arith in
    let w : Written xs a (a + n) (big_bytes n value) = record { order = omega arith; inside = room; exact = length-bytes_high_first n value ∙ sym wide } in
    ap (big_from 0 n) (written_on xs a (a + n) (big_bytes n value) w) ∙ big_number-reads_back n value (drop (a + n) xs) fits

pub low_field_there : (n : ℕ) (xs : List ℕ) (a value : ℕ) → a + n ≤ length xs → value < 256 ^ n → low_field n (splice xs a (a + n) (little_bytes n value)) a ≡ value
low_field_there n xs a value room fits =
    let wide : a + n - a ≡ n = omega arith in
    let w : Written xs a (a + n) (little_bytes n value) = record { order = omega arith; inside = room; exact = length-bytes_low_first 0 n value ∙ sym wide } in
    ap (little_from 0 n) (written_on xs a (a + n) (little_bytes n value) w) ∙ little_number-reads_back n value (drop (a + n) xs) fits
