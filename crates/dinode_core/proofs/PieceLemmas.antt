-- What stands where after pieces were put in.
use Rattle.std.proofs.Common.{◌≡◌, ℕ, zero, suc, ◌+◌, ◌-◌, ◌<◌, ◌≤◌, ◌%◌, ◌^◌, Bool, true, List, [], ◌∷◌, ◌++◌, length, get_or, take, drop, refl, sym, ap, subst, ◌∙◌, inl, inr, arith, add-zero, zero-add}
use Rattle.std.specs.Prelude.{⊤, ◌⊎◌, ◌&&◌, ◌||◌, nat_le}
use Rattle.std.specs.List.{splice}
use Rattle.std.proofs.lemmas.Bool.{and_parts, cases_lt}
use Rattle.std.proofs.lemmas.Bool.Decides.{nat_tests}
use Rattle.std.proofs.Math.Nat.{mod-eq_of_lt}
use Rattle.std.proofs.lemmas.Grind.{common_steps, elements, same_number_lists}
use Rattle.std.proofs.lemmas.List.{append-nil, get_or-drop, get_or-take, get_or_past, length-drop, length-take, length-take-le}
use Rattle.byteorder.specs.Endian.{big_from, big_bytes, big_number, little_bytes, little_number}
use Rattle.byteorder.specs.Numbers.{big_from-bytes, big_from-take, little_from-take}
use Rattle.dinode_core.proofs.NumberLemmas.{bytes_again, low_bytes_again}
use Rattle.dinode_core.specs.Pieces.{Piece, with_pieces, IsOutside}

pub length_splice : (xs : List ℕ) (a n : ℕ) (ys : List ℕ) → a + n ≤ length xs → length ys ≡ n → length (splice xs a (a + n) ys) ≡ length xs
length_splice xs a n ys room len = grind (arith, common_steps)

pub inside_splice : (xs : List ℕ) (a n : ℕ) (ys : List ℕ) (k : ℕ) → a + n ≤ length xs → length ys ≡ n → k < n → get_or (splice xs a (a + n) ys) (a + k) 0 ≡ get_or ys k 0
inside_splice xs a n ys k room len below = grind (arith, elements)

pub outside_splice : (xs : List ℕ) (a n : ℕ) (ys : List ℕ) (i : ℕ) → a + n ≤ length xs → length ys ≡ n → (i < a) ⊎ (a + n ≤ i) → get_or (splice xs a (a + n) ys) i 0 ≡ get_or xs i 0
outside_splice xs a n ys i room len out = grind (arith, elements)

-- pieces in two lists go in one list after the other
pub pieces_append : (ps qs : List Piece) (xs : List ℕ) → with_pieces (ps ++ qs) xs ≡ with_pieces qs (with_pieces ps xs)
pieces_append [] qs xs = refl
pieces_append (p ∷ ps) qs xs = pieces_append ps qs (splice xs p.at (p.at + p.width) p.bytes)

-- each piece has its width, and ends within n bytes
abbrev pub AreWithin : ℕ → List Piece → Type 0
AreWithin n [] = ⊤
AreWithin n (p ∷ ps) = (p.at + p.width ≤ n) × (length p.bytes ≡ p.width) × AreWithin n ps

-- w bytes from a on are in none of the pieces
abbrev pub is_apart : ℕ → ℕ → List Piece → Bool
is_apart a w [] = true
is_apart a w (p ∷ ps) = (nat_le (a + w) p.at || nat_le (p.at + p.width) a) && is_apart a w ps

-- no two pieces overlap
abbrev pub are_apart : List Piece → Bool
are_apart [] = true
are_apart (p ∷ ps) = is_apart p.at p.width ps && are_apart ps

-- the w bytes from a on are these
abbrev pub Stands : List ℕ → ℕ → ℕ → List ℕ → Type 0
Stands xs a w ys = (k : ℕ) → k < w → get_or xs (a + k) 0 ≡ get_or ys k 0

-- each piece stands in its place
abbrev pub AllStand : List ℕ → List Piece → Type 0
AllStand xs [] = ⊤
AllStand xs (p ∷ ps) = Stands xs p.at p.width p.bytes × AllStand xs ps

pub length_pieces : (ps : List Piece) (n : ℕ) (xs : List ℕ) → length xs ≡ n → AreWithin n ps → length (with_pieces ps xs) ≡ n
length_pieces [] n xs len within = len
length_pieces (p ∷ ps) n xs len within =
    length_pieces ps n (splice xs p.at (p.at + p.width) p.bytes) (length_splice xs p.at p.width p.bytes (omega arith) within.1 ∙ len) within.2

-- a byte in no piece stays
pub outside_pieces : (ps : List Piece) (n : ℕ) (xs : List ℕ) (i : ℕ) → length xs ≡ n → AreWithin n ps → IsOutside i ps → get_or (with_pieces ps xs) i 0 ≡ get_or xs i 0
outside_pieces [] n xs i len within out = refl
outside_pieces (p ∷ ps) n xs i len within out =
    outside_pieces ps n (splice xs p.at (p.at + p.width) p.bytes) i (length_splice xs p.at p.width p.bytes (omega arith) within.1 ∙ len) within.2 out.1
    ∙ outside_splice xs p.at p.width p.bytes i (omega arith) within.1 out.0

side : (a b c d : ℕ) → (nat_le (a + b) c || nat_le (c + d) a) ≡ true → (k : ℕ) → k < b → (a + k < c) ⊎ (c + d ≤ a + k)
side a b c d h k below = grind (arith, nat_tests)

other_side : (a b c d : ℕ) → (nat_le (a + b) c || nat_le (c + d) a) ≡ true → (k : ℕ) → k < d → (c + k < a) ⊎ (a + b ≤ c + k)
other_side a b c d h k below = grind (arith, nat_tests)

pub outside_from_apart : (a w : ℕ) (ps : List Piece) → is_apart a w ps ≡ true → (k : ℕ) → k < w → IsOutside (a + k) ps
outside_from_apart a w [] h k below = tt
outside_from_apart a w (p ∷ ps) h k below =
    let parts = and_parts (nat_le (a + w) p.at || nat_le (p.at + p.width) a) (is_apart a w ps) h in
    (side a w p.at p.width parts.0 k below, outside_from_apart a w ps parts.1 k below)

-- pieces that don't overlap all stand in their places
pub all_stand : (ps : List Piece) (n : ℕ) (xs : List ℕ) → length xs ≡ n → AreWithin n ps → are_apart ps ≡ true → AllStand (with_pieces ps xs) ps
all_stand [] n xs len within apart = tt
all_stand (p ∷ ps) n xs len within apart =
    let parts = and_parts (is_apart p.at p.width ps) (are_apart ps) apart in
    let ys = splice xs p.at (p.at + p.width) p.bytes in
    let same : length ys ≡ n = length_splice xs p.at p.width p.bytes (omega arith) within.1 ∙ len in (
      λ k below. outside_pieces ps n ys (p.at + k) same within.2 (outside_from_apart p.at p.width ps parts.0 k below) ∙ inside_splice xs p.at p.width p.bytes k (omega arith) within.1 below,
      all_stand ps n ys same within.2 parts.1,
    )

-- they stand in other bytes that are the same in their places
pub all_stand_in : (ps : List Piece) (xs ys : List ℕ) (a w : ℕ) → is_apart a w ps ≡ true → ((i : ℕ) → (i < a) ⊎ (a + w ≤ i) → get_or ys i 0 ≡ get_or xs i 0) → AllStand xs ps → AllStand ys ps
all_stand_in [] xs ys a w apart same stand = tt
all_stand_in (p ∷ ps) xs ys a w apart same stand =
    let parts = and_parts (nat_le (a + w) p.at || nat_le (p.at + p.width) a) (is_apart a w ps) apart in
    (λ k below. same (p.at + k) (other_side a w p.at p.width parts.0 k below) ∙ stand.0 k below, all_stand_in ps xs ys a w parts.1 same stand.1)

same_number : (n i j : ℕ) (xs ys : List ℕ) → ((k : ℕ) → k < n → get_or xs (i + k) 0 ≡ get_or ys (j + k) 0) → big_from i n xs ≡ big_from j n ys
same_number zero i j xs ys h = refl
same_number (suc n) i j xs ys h =
    let first : get_or xs i 0 ≡ get_or ys j 0 = rw (add-zero, add-zero) at (h 0 (omega arith)) in
    let rest = same_number n (suc i) (suc j) xs ys (λ k below. let e : suc i + k ≡ i + suc k = omega arith in let f : suc j + k ≡ j + suc k = omega arith in rw (e, f) (h (suc k) (omega arith))) in
    rw (first, rest) refl

-- a number that stands somewhere is read there
pub reads_number : (n at v : ℕ) (xs : List ℕ) → v < 256 ^ n → Stands xs at n (big_bytes n v) → big_number n (drop at xs) ≡ v
reads_number n at v xs fits stand =
    same_number n 0 0 (drop at xs) (big_bytes n v ++ []) (λ k below. rw (zero-add, get_or-drop, append-nil) (stand k below))
    ∙ big_from-bytes n v [] ∙ mod-eq_of_lt fits

pub reads_byte : (at v : ℕ) (xs : List ℕ) → v < 256 → Stands xs at 1 (big_bytes 1 v) → get_or xs at 0 ≡ v
reads_byte at v xs fits stand =
    let here : get_or xs at 0 ≡ v % 256 = rw add-zero at (stand 0 (omega arith)) in
    here ∙ mod-eq_of_lt fits

pub reads_bytes : (at w : ℕ) (ys xs : List ℕ) → length ys ≡ w → at + w ≤ length xs → Stands xs at w ys → take w (drop at xs) ≡ ys
reads_bytes at w ys xs len room stand =
    same_number_lists (take w (drop at xs)) ys (grind (arith, common_steps)) (λ k below. read k (grind (arith, common_steps)))
  where
    read : (k : ℕ) → k < w → get_or (take w (drop at xs)) k 0 ≡ get_or ys k 0
    read k below = rw (get_or-take w (drop at xs) k 0 below, get_or-drop) (stand k below)

-- pieces that stand in their places already change nothing
pub same_splice : (xs : List ℕ) (a n : ℕ) (ys : List ℕ) → a + n ≤ length xs → length ys ≡ n → Stands xs a n ys → splice xs a (a + n) ys ≡ xs
same_splice xs a n ys room len stand =
    same_number_lists (splice xs a (a + n) ys) xs (length_splice xs a n ys room len) (λ i below. at_place i)
  where
    inside : (i : ℕ) → a ≤ i → i < a + n → get_or (splice xs a (a + n) ys) i 0 ≡ get_or xs i 0
    inside i low high =
        let e : i ≡ a + (i - a) = omega arith in
        rw e (inside_splice xs a n ys (i - a) room len (omega arith) ∙ sym (stand (i - a) (omega arith)))

    at_place : (i : ℕ) → get_or (splice xs a (a + n) ys) i 0 ≡ get_or xs i 0
    at_place i =
        elim (cases_lt i a) [
          | inl low ↦ outside_splice xs a n ys i room len (inl low)
          | inr above ↦ elim (cases_lt i (a + n)) [
            | inl below ↦ inside i above below
            | inr high ↦ outside_splice xs a n ys i room len (inr high)
          ]
        ]

pub same_pieces : (ps : List Piece) (n : ℕ) (xs : List ℕ) → length xs ≡ n → AreWithin n ps → AllStand xs ps → with_pieces ps xs ≡ xs
same_pieces [] n xs len within stand = refl
same_pieces (p ∷ ps) n xs len within stand =
    rw (same_splice xs p.at p.width p.bytes (omega arith) within.1 stand.0) (same_pieces ps n xs len within.2 stand.1)

small_piece : (n at : ℕ) (xs : List ℕ) → ((k : ℕ) → get_or xs k 0 < 256) → (j : ℕ) → get_or (take n (drop at xs)) j 0 < 256
small_piece n at xs small j =
    elim (cases_lt j n) [
      | inl low ↦ rw (get_or-take n (drop at xs) j 0 low, get_or-drop) (small (at + j))
      | inr high ↦ rw (get_or_past (take n (drop at xs)) j 0 (omega (arith, length-take n (drop at xs)))) (omega arith)
    ]

-- what is read somewhere stands there
pub number_stands : (n at v : ℕ) (xs : List ℕ) → at + n ≤ length xs → ((k : ℕ) → get_or xs k 0 < 256) → big_number n (drop at xs) ≡ v → Stands xs at n (big_bytes n v)
number_stands n at v xs room small e k below =
    let piece = take n (drop at xs) in
    let len : length piece ≡ n = length-take-le n (drop at xs) (omega (arith, length-drop at xs)) in
    let again : big_bytes n (big_number n piece) ≡ piece = bytes_again n piece len (small_piece n at xs small) in
    let read : big_number n piece ≡ v = big_from-take 0 n n (drop at xs) (omega arith) ∙ e in
    sym (ap (λ ys. get_or ys k 0) (sym (ap (big_bytes n) read) ∙ again) ∙ get_or-take n (drop at xs) k 0 below ∙ get_or-drop at xs k 0)

pub low_stands : (n at : ℕ) (xs : List ℕ) → at + n ≤ length xs → ((k : ℕ) → get_or xs k 0 < 256) → little_bytes n (little_number n (drop at xs)) ≡ take n (drop at xs)
low_stands n at xs room small =
    let piece = take n (drop at xs) in
    let len : length piece ≡ n = length-take-le n (drop at xs) (omega (arith, length-drop at xs)) in
    let read : little_number n piece ≡ little_number n (drop at xs) = little_from-take 0 n n (drop at xs) (omega arith) in
    ap (little_bytes n) (sym read) ∙ low_bytes_again n piece len (small_piece n at xs small)

pub byte_stands : (at v : ℕ) (xs : List ℕ) → ((k : ℕ) → get_or xs k 0 < 256) → get_or xs at 0 ≡ v → Stands xs at 1 (big_bytes 1 v)
byte_stands at v xs small e k below =
    let first : k ≡ 0 = omega arith in
    let here : v % 256 ≡ v = mod-eq_of_lt (subst (λ n. n < 256) e (small at)) in
    rw (first, add-zero) (e ∙ sym here)

pub bytes_stand : (at w : ℕ) (xs : List ℕ) → Stands xs at w (take w (drop at xs))
bytes_stand at w xs k below = sym (get_or-take w (drop at xs) k 0 below ∙ get_or-drop at xs k 0)
