-- Four bytes as one word: what they leave behind them is what four bytes of zero make of it.
use Rattle.std.proofs.Common.{◌≡◌, ℕ, ◌+◌, ◌*◌, ◌/◌, ◌%◌, ◌^◌, ◌<◌, ◌≤◌, List, [], ◌∷◌, length, get_or, take, drop, replicate, refl, sym, ◌∙◌, ap, arith, add-one, drop-cons}
use Rattle.std.proofs.lemmas.List.{drop-drop, length-drop, length-take-le}
use Rattle.std.specs.Int.Bits.{bit_xor, xor_assoc, xor_zero_r, xor_zero_l}
use Rattle.byte_fields.specs.Tables.{after_zeros}
use Rattle.byte_fields.specs.Checksum.{after_bits, after_byte, after_bytes, blanked}
use Rattle.byte_fields.proofs.ChecksumLemmas.{after_bytes_end, after_bytes_split, checksum_in_parts}
use Rattle.byte_fields.proofs.TableLemmas.{add-bits, add-zeros, zeros-are, zeros-on, after-four, spread-four, four-empty}

-- what stood before the bytes and the bytes themselves, apart
apart : (c : ℕ) (xs : List ℕ) → after_bytes c xs ≡ bit_xor (after_zeros (length xs) c) (after_bytes 0 xs)
unfolding after_bytes after_byte after_zeros
apart c [] = sym (xor_zero_r c)
apart c (x ∷ xs) =
    let n = length xs in
    let old = after_zeros n (after_bits 8 c) in
    let this = after_zeros n (after_bits 8 x) in
    let others = after_bytes 0 xs in
    let both : after_zeros n (after_bits 8 (bit_xor c x)) ≡ bit_xor old this =
    ap (after_zeros n) (add-bits 8 c x) ∙ add-zeros n (after_bits 8 c) (after_bits 8 x) in
    let alone : after_bytes (after_bits 8 (bit_xor 0 x)) xs ≡ bit_xor this others =
    apart (after_bits 8 (bit_xor 0 x)) xs ∙ ap (λ (m : ℕ). bit_xor (after_zeros n (after_bits 8 m)) others) (xor_zero_l x) in
    apart (after_bits 8 (bit_xor c x)) xs
    ∙ (ap (λ (m : ℕ). bit_xor m others) both ∙ (xor_assoc old this others ∙ ap (bit_xor old) (sym alone)))

-- each byte of a word by the table of its place
by_bytes : (n w : ℕ) → w < 2 ^ 32 → after_zeros (4 + n) w ≡ bit_xor (bit_xor (after_zeros (4 + n) (w % 256)) (after_zeros (3 + n) (w / 256 % 256))) (bit_xor (after_zeros (2 + n) (w / 65536 % 256)) (after_zeros (1 + n) (w / 16777216)))
by_bytes n w lt =
    let a = w % 256 in
    let b = w / 256 % 256 in
    let d = w / 65536 % 256 in
    let e = w / 16777216 in
    let low : after_zeros n (bit_xor (after_zeros 4 a) (after_zeros 3 b)) ≡ bit_xor (after_zeros (4 + n) a) (after_zeros (3 + n) b) =
    add-zeros n (after_zeros 4 a) (after_zeros 3 b) ∙ (λ i. bit_xor (zeros-on 4 n a i) (zeros-on 3 n b i)) in
    let high : after_zeros n (bit_xor (after_zeros 2 d) (after_zeros 1 e)) ≡ bit_xor (after_zeros (2 + n) d) (after_zeros (1 + n) e) =
    add-zeros n (after_zeros 2 d) (after_zeros 1 e) ∙ (λ i. bit_xor (zeros-on 2 n d i) (zeros-on 1 n e i)) in
    sym (zeros-on 4 n w)
    ∙ (ap (after_zeros n) (four-empty w lt)
    ∙ (add-zeros n (bit_xor (after_zeros 4 a) (after_zeros 3 b)) (bit_xor (after_zeros 2 d) (after_zeros 1 e)) ∙ (λ i. bit_xor (low i) (high i))))

pub past_four : (w : ℕ) → w < 2 ^ 32 → after_zeros 4 w ≡ bit_xor (bit_xor (after_zeros 4 (w % 256)) (after_zeros 3 (w / 256 % 256))) (bit_xor (after_zeros 2 (w / 65536 % 256)) (after_zeros 1 (w / 16777216)))
past_four w lt = by_bytes 0 w lt

pub past_eight : (w : ℕ) → w < 2 ^ 32 → after_zeros 8 w ≡ bit_xor (bit_xor (after_zeros 8 (w % 256)) (after_zeros 7 (w / 256 % 256))) (bit_xor (after_zeros 6 (w / 65536 % 256)) (after_zeros 5 (w / 16777216)))
past_eight w lt = by_bytes 4 w lt

pub past_twelve : (w : ℕ) → w < 2 ^ 32 → after_zeros 12 w ≡ bit_xor (bit_xor (after_zeros 12 (w % 256)) (after_zeros 11 (w / 256 % 256))) (bit_xor (after_zeros 10 (w / 65536 % 256)) (after_zeros 9 (w / 16777216)))
past_twelve w lt = by_bytes 8 w lt

pub past_sixteen : (w : ℕ) → w < 2 ^ 32 → after_zeros 16 w ≡ bit_xor (bit_xor (after_zeros 16 (w % 256)) (after_zeros 15 (w / 256 % 256))) (bit_xor (after_zeros 14 (w / 65536 % 256)) (after_zeros 13 (w / 16777216)))
past_sixteen w lt = by_bytes 12 w lt

pub past_sixty_four : (w : ℕ) → w < 2 ^ 32 → after_zeros 64 w ≡ bit_xor (bit_xor (after_zeros 64 (w % 256)) (after_zeros 63 (w / 256 % 256))) (bit_xor (after_zeros 62 (w / 65536 % 256)) (after_zeros 61 (w / 16777216)))
past_sixty_four w lt = by_bytes 60 w lt

pub past_one_twenty_eight : (w : ℕ) → w < 2 ^ 32 → after_zeros 128 w ≡ bit_xor (bit_xor (after_zeros 128 (w % 256)) (after_zeros 127 (w / 256 % 256))) (bit_xor (after_zeros 126 (w / 65536 % 256)) (after_zeros 125 (w / 16777216)))
past_one_twenty_eight w lt = by_bytes 124 w lt

-- the bytes of a word, the lowest first
word_of : (a b d e : ℕ) → a < 256 → b < 256 → d < 256 → e < 256 → after_zeros 4 (a + b * 256 + (d + e * 256) * 65536) ≡ after_bytes 0 (a ∷ b ∷ d ∷ e ∷ [])
word_of a b d e la lb ld le =
    let w = a + b * 256 + (d + e * 256) * 65536 in
    let fits : w < 2 ^ 32 = omega (arith, la, lb, ld, le) in
    let wa : w % 256 ≡ a = omega (arith, la) in
    let wb : w / 256 % 256 ≡ b = omega (arith, la, lb) in
    let wd : w / 65536 % 256 ≡ d = omega (arith, la, lb, ld) in
    let we : w / 16777216 ≡ e = omega (arith, la, lb, ld, le) in
    let of_word : after_zeros 4 w ≡ bit_xor (bit_xor (after_zeros 4 a) (after_zeros 3 b)) (bit_xor (after_zeros 2 d) (after_zeros 1 e)) =
    four-empty w fits ∙ (λ i. bit_xor (bit_xor (after_zeros 4 (wa i)) (after_zeros 3 (wb i))) (bit_xor (after_zeros 2 (wd i)) (after_zeros 1 (we i)))) in
    let of_bytes : after_bytes 0 (a ∷ b ∷ d ∷ e ∷ []) ≡ bit_xor (after_bits 8 (bit_xor (after_bits 8 (bit_xor (after_bits 8 (after_bits 8 a)) (after_bits 8 b))) (after_bits 8 d))) (after_bits 8 e) =
    after-four 0 a b d e (omega arith)
    ∙ (λ i. bit_xor (after_bits 8 (bit_xor (after_bits 8 (bit_xor (after_bits 8 (after_bits 8 (xor_zero_l a i))) (after_bits 8 (xor_zero_l b i)))) (after_bits 8 (xor_zero_l d i)))) (after_bits 8 (xor_zero_l e i))) in
    of_word
    ∙ sym (of_bytes ∙ (spread-four a b d e ∙ xor_assoc (bit_xor (after_zeros 4 a) (after_zeros 3 b)) (after_zeros 2 d) (after_zeros 1 e)))

drop_one : (i : ℕ) (xs : List ℕ) → i < length xs → drop i xs ≡ get_or xs i 0 ∷ drop (i + 1) xs
drop_one i xs lt = rw (add-one, drop-cons xs i 0) refl

four_at : (at : ℕ) (xs : List ℕ) → at + 4 ≤ length xs → take 4 (drop at xs) ≡ get_or xs at 0 ∷ get_or xs (at + 1) 0 ∷ get_or xs (at + 2) 0 ∷ get_or xs (at + 3) 0 ∷ []
four_at at xs le =
    let two : at + 1 + 1 ≡ at + 2 = omega arith in
    let three : at + 2 + 1 ≡ at + 3 = omega arith in
    let d0 : drop at xs ≡ get_or xs at 0 ∷ drop (at + 1) xs = drop_one at xs (omega (arith, le)) in
    let d1 : drop (at + 1) xs ≡ get_or xs (at + 1) 0 ∷ drop (at + 2) xs = drop_one (at + 1) xs (omega (arith, le)) ∙ ap (λ (k : ℕ). get_or xs (at + 1) 0 ∷ drop k xs) two in
    let d2 : drop (at + 2) xs ≡ get_or xs (at + 2) 0 ∷ drop (at + 3) xs = drop_one (at + 2) xs (omega (arith, le)) ∙ ap (λ (k : ℕ). get_or xs (at + 2) 0 ∷ drop k xs) three in
    let d3 : drop (at + 3) xs ≡ get_or xs (at + 3) 0 ∷ drop (at + 3 + 1) xs = drop_one (at + 3) xs (omega (arith, le)) in
    ap (take 4) (d0 ∙ ap (λ (ys : List ℕ). get_or xs at 0 ∷ ys) (d1 ∙ ap (λ (ys : List ℕ). get_or xs (at + 1) 0 ∷ ys) (d2 ∙ ap (λ (ys : List ℕ). get_or xs (at + 2) 0 ∷ ys) d3)))

pub word_is : (at : ℕ) (xs : List ℕ) → at + 4 ≤ length xs → get_or xs at 0 < 256 → get_or xs (at + 1) 0 < 256 → get_or xs (at + 2) 0 < 256 → get_or xs (at + 3) 0 < 256 → after_zeros 4 (get_or xs at 0 + get_or xs (at + 1) 0 * 256 + (get_or xs (at + 2) 0 + get_or xs (at + 3) 0 * 256) * 65536) ≡ after_bytes 0 (take 4 (drop at xs))
word_is at xs le la lb ld lx =
    word_of (get_or xs at 0) (get_or xs (at + 1) 0) (get_or xs (at + 2) 0) (get_or xs (at + 3) 0) la lb ld lx
    ∙ ap (after_bytes 0) (sym (four_at at xs le))

-- the first four bytes as a word, laid over what stood before
front_word : (n c v : ℕ) (xs : List ℕ) → length xs ≡ 4 + n → after_zeros 4 v ≡ after_bytes 0 (take 4 xs) → after_bytes c xs ≡ bit_xor (after_zeros (4 + n) (bit_xor c v)) (after_bytes 0 (drop 4 xs))
front_word n c v xs len e =
    let four : length (take 4 xs) ≡ 4 = length-take-le 4 xs (omega (arith, len)) in
    let back : length (drop 4 xs) ≡ n = length-drop 4 xs ∙ omega (arith, len) in
    let front : after_bytes c (take 4 xs) ≡ after_zeros 4 (bit_xor c v) =
    apart c (take 4 xs)
    ∙ (ap (λ (k : ℕ). bit_xor (after_zeros k c) (after_bytes 0 (take 4 xs))) four ∙ (ap (bit_xor (after_zeros 4 c)) (sym e) ∙ sym (add-zeros 4 c v))) in
    let on : after_zeros (length (drop 4 xs)) (after_zeros 4 (bit_xor c v)) ≡ after_zeros (4 + n) (bit_xor c v) =
    ap (λ (k : ℕ). after_zeros k (after_zeros 4 (bit_xor c v))) back ∙ zeros-on 4 n (bit_xor c v) in
    sym (after_bytes_split c 4 xs)
    ∙ (ap (λ (m : ℕ). after_bytes m (drop 4 xs)) front
    ∙ (apart (after_zeros 4 (bit_xor c v)) (drop 4 xs) ∙ ap (λ (m : ℕ). bit_xor m (after_bytes 0 (drop 4 xs))) on))

-- a word farther on, over nothing
next_word : (n i w : ℕ) (xs : List ℕ) → length xs ≡ i + 4 + n → after_zeros 4 w ≡ after_bytes 0 (take 4 (drop i xs)) → after_bytes 0 (drop i xs) ≡ bit_xor (after_zeros (4 + n) w) (after_bytes 0 (drop (i + 4) xs))
next_word n i w xs len e =
    let back : length (drop i xs) ≡ 4 + n = length-drop i xs ∙ omega (arith, len) in
    front_word n 0 w (drop i xs) back e
    ∙ (ap (λ (m : ℕ). bit_xor (after_zeros (4 + n) m) (after_bytes 0 (drop 4 (drop i xs)))) (xor_zero_l w) ∙ ap (λ (ys : List ℕ). bit_xor (after_zeros (4 + n) w) (after_bytes 0 ys)) (drop-drop 4 i xs))

pub after_four : (c v : ℕ) (xs : List ℕ) → length xs ≡ 4 → after_zeros 4 v ≡ after_bytes 0 (take 4 xs) → after_bytes c xs ≡ after_zeros 4 (bit_xor c v)
after_four c v xs len e =
    front_word 0 c v xs len e
    ∙ (ap (bit_xor (after_zeros 4 (bit_xor c v))) (after_bytes_end 0 4 xs (omega (arith, len))) ∙ xor_zero_r (after_zeros 4 (bit_xor c v)))

pub after_eight : (c v w : ℕ) (xs : List ℕ) → length xs ≡ 8 → after_zeros 4 v ≡ after_bytes 0 (take 4 xs) → after_zeros 4 w ≡ after_bytes 0 (take 4 (drop 4 xs)) → after_bytes c xs ≡ bit_xor (after_zeros 8 (bit_xor c v)) (after_zeros 4 w)
after_eight c v w xs len ev ew =
    let last : after_bytes 0 (drop 4 xs) ≡ after_zeros 4 w =
    next_word 0 4 w xs (omega (arith, len)) ew ∙ (ap (bit_xor (after_zeros 4 w)) (after_bytes_end 0 8 xs (omega (arith, len))) ∙ xor_zero_r (after_zeros 4 w)) in
    front_word 4 c v xs len ev ∙ ap (bit_xor (after_zeros 8 (bit_xor c v))) last

-- what 16 bytes give, each word of them by the tables of its place
pub after_sixteen : (c v w x y : ℕ) (xs : List ℕ) → length xs ≡ 16 → after_zeros 4 v ≡ after_bytes 0 (take 4 xs) → after_zeros 4 w ≡ after_bytes 0 (take 4 (drop 4 xs)) → after_zeros 4 x ≡ after_bytes 0 (take 4 (drop 8 xs)) → after_zeros 4 y ≡ after_bytes 0 (take 4 (drop 12 xs)) → after_bytes c xs ≡ bit_xor (after_zeros 16 (bit_xor c v)) (bit_xor (after_zeros 12 w) (bit_xor (after_zeros 8 x) (after_zeros 4 y)))
after_sixteen c v w x y xs len ev ew ex ey =
    let last : after_bytes 0 (drop 12 xs) ≡ after_zeros 4 y =
    next_word 0 12 y xs (omega (arith, len)) ey ∙ (ap (bit_xor (after_zeros 4 y)) (after_bytes_end 0 16 xs (omega (arith, len))) ∙ xor_zero_r (after_zeros 4 y)) in
    let third : after_bytes 0 (drop 8 xs) ≡ bit_xor (after_zeros 8 x) (after_zeros 4 y) = next_word 4 8 x xs (omega (arith, len)) ex ∙ ap (bit_xor (after_zeros 8 x)) last in
    let second : after_bytes 0 (drop 4 xs) ≡ bit_xor (after_zeros 12 w) (bit_xor (after_zeros 8 x) (after_zeros 4 y)) =
    next_word 8 4 w xs (omega (arith, len)) ew ∙ ap (bit_xor (after_zeros 12 w)) third in
    front_word 12 c v xs len ev ∙ ap (bit_xor (after_zeros 16 (bit_xor c v))) second

-- bytes of zero
pub after_empty : (c : ℕ) (xs : List ℕ) → length xs ≡ 64 → xs ≡ replicate (length xs) 0 → after_bytes c xs ≡ after_zeros 64 c
after_empty c xs len none =
    ap (after_bytes c) (none ∙ ap (λ (k : ℕ). replicate k 0) len) ∙ zeros-are 64 c

all_empty : (c : ℕ) (xs : List ℕ) → xs ≡ replicate (length xs) 0 → after_bytes c xs ≡ after_zeros (length xs) c
all_empty c xs none = ap (after_bytes c) none ∙ zeros-are (length xs) c

-- 128 bytes of zero, in two pieces
pub after_broad : (c : ℕ) (xs : List ℕ) → length xs ≡ 128 → take 64 xs ≡ replicate (length (take 64 xs)) 0 → drop 64 xs ≡ replicate (length (drop 64 xs)) 0 → after_bytes c xs ≡ after_zeros 128 c
after_broad c xs len front back =
    let short : length (take 64 xs) ≡ 64 = length-take-le 64 xs (omega (arith, len)) in
    let long : length (drop 64 xs) ≡ 64 = length-drop 64 xs ∙ omega (arith, len) in
    let first : after_bytes c (take 64 xs) ≡ after_zeros 64 c = after_empty c (take 64 xs) short front in
    let second : after_bytes (after_zeros 64 c) (drop 64 xs) ≡ after_zeros 64 (after_zeros 64 c) =
    all_empty (after_zeros 64 c) (drop 64 xs) back ∙ ap (λ (k : ℕ). after_zeros k (after_zeros 64 c)) long in
    sym (after_bytes_split c 64 xs) ∙ (ap (λ (m : ℕ). after_bytes m (drop 64 xs)) first ∙ (second ∙ zeros-on 64 64 c))

-- four steps of 16 bytes
pub in_quarters : (c : ℕ) (xs : List ℕ) → after_bytes (after_bytes (after_bytes (after_bytes c (take 16 (take 32 xs))) (drop 16 (take 32 xs))) (take 16 (drop 32 xs))) (drop 16 (drop 32 xs)) ≡ after_bytes c xs
in_quarters c xs =
    ap (λ (m : ℕ). after_bytes (after_bytes m (take 16 (drop 32 xs))) (drop 16 (drop 32 xs))) (after_bytes_split c 16 (take 32 xs))
    ∙ (after_bytes_split (after_bytes c (take 32 xs)) 16 (drop 32 xs) ∙ after_bytes_split c 32 xs)

-- the bytes before the sum, four of zero in its place, and the bytes behind it
pub sum_in_parts : (c at : ℕ) (xs : List ℕ) → after_bytes (after_zeros 4 (after_bytes c (take at xs))) (drop 4 (drop at xs)) ≡ after_bytes c (blanked xs at)
sum_in_parts c at xs =
    ap (λ (m : ℕ). after_bytes m (drop 4 (drop at xs))) (sym (zeros-are 4 (after_bytes c (take at xs)))) ∙ checksum_in_parts c at xs
