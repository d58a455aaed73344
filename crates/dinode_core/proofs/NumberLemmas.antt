-- The bytes of the number that bytes make.
use Rattle.std.proofs.Common.{◌≡◌, ℕ, zero, suc, ◌+◌, ◌*◌, ◌/◌, ◌%◌, ◌^◌, ◌<◌, List, [], ◌∷◌, length, get_or, refl, sym, ap, ◌∙◌, zero-add, arith}
use Rattle.std.proofs.Math.Nat.{div-div-eq-div-mul, div-one, mod-eq_of_lt, mul-add-div_right, mul-add-mod_self_right, mul_assoc, one-le-pow, pow-suc, pow-succ'}
use Rattle.std.proofs.lemmas.Nat.{div-mul-add, pow-add}
use Rattle.std.specs.Int.{byte_at, bytes_high_first, bytes_low_first}
use Rattle.byteorder.specs.Endian.{big_from, little_from}
use Rattle.byteorder.specs.Numbers.{big_from-cons, big_from-lt, little_from-cons}

byte_of : (k x : ℕ) → byte_at k x ≡ x / 256 ^ k % 256
byte_of zero x = ap (λ (y : ℕ). y % 256) (sym (div-one x))
byte_of (suc k) x = refl

positive : (n : ℕ) → 0 < 256 ^ n
positive n = let h = one-le-pow n 256 (omega arith) in omega arith

-- what stands above the k low bytes doesn't show in them
turned : (x n : ℕ) → x * (n * 256) ≡ x * n * 256
turned x n = omega arith

over : (a b r : ℕ) → 0 < b → (a * b + r) / b ≡ a + r / b
over a b r h = mul-add-div_right h a r

low_byte : (x r k j : ℕ) → byte_at k (x * 256 ^ (suc j + k) + r) ≡ byte_at k r
low_byte x r k j =
    let cut : x * 256 ^ (suc j + k) ≡ (x * 256 ^ suc j) * 256 ^ k = ap (λ n. x * n) (pow-add 256 (suc j) k) ∙ sym (mul_assoc x (256 ^ suc j) (256 ^ k)) in
    let high : x * 256 ^ suc j ≡ (x * 256 ^ j) * 256 = ap (λ n. x * n) (pow-suc 256 j) ∙ turned x (256 ^ j) in
    byte_of k (x * 256 ^ (suc j + k) + r)
    ∙ ap (λ n. (n + r) / 256 ^ k % 256) cut
    ∙ ap (λ n. n % 256) (over (x * 256 ^ suc j) (256 ^ k) r (positive k))
    ∙ ap (λ n. (n + r / 256 ^ k) % 256) high
    ∙ mul-add-mod_self_right (x * 256 ^ j) 256 (r / 256 ^ k)
    ∙ sym (byte_of k r)

low_bytes : (x r k j : ℕ) → bytes_high_first k (x * 256 ^ (j + k) + r) ≡ bytes_high_first k r
low_bytes x r zero j = refl
low_bytes x r (suc k) j =
    let e : j + suc k ≡ suc j + k = omega arith in
    rw (e, low_byte x r k j, low_bytes x r k (suc j)) refl

-- the first n bytes of a list are those of the number that they make
pub bytes_again : (n : ℕ) (xs : List ℕ) → length xs ≡ n → ((k : ℕ) → get_or xs k 0 < 256) → bytes_high_first n (big_from 0 n xs) ≡ xs
bytes_again zero [] len small = refl
bytes_again zero (x ∷ xs) len small = absurd (omega arith)
bytes_again (suc n) [] len small = absurd (omega arith)
bytes_again (suc n) (x ∷ xs) len small =
    let tail : big_from 1 n (x ∷ xs) ≡ big_from 0 n xs = big_from-cons 0 n x xs in
    let below : big_from 0 n xs < 256 ^ n = big_from-lt 0 n xs (λ k. small (suc k)) in
    let first : byte_at n (x * 256 ^ n + big_from 0 n xs) ≡ x = byte_of n _ ∙ ap (λ q. q % 256) (div-mul-add x (256 ^ n) (big_from 0 n xs) below) ∙ mod-eq_of_lt (small 0) in
    let rest : bytes_high_first n (x * 256 ^ n + big_from 0 n xs) ≡ bytes_high_first n (big_from 0 n xs) = ap (λ m. bytes_high_first n (x * 256 ^ m + big_from 0 n xs)) (sym (zero-add n)) ∙ low_bytes x (big_from 0 n xs) n 0 in
    let last : bytes_high_first n (big_from 0 n xs) ≡ xs = bytes_again n xs (omega arith) (λ k. small (suc k)) in
    rw (tail, first, rest, last) refl

low_byte_next : (i x m : ℕ) → x < 256 → byte_at (suc i) (x + 256 * m) ≡ byte_at i m
low_byte_next i x m h =
    let cut : (x + 256 * m) / 256 ≡ m = omega arith in
    byte_of (suc i) (x + 256 * m)
    ∙ ap (λ p. (x + 256 * m) / p % 256) (pow-succ' 256 i)
    ∙ ap (λ q. q % 256) (sym (div-div-eq-div-mul (x + 256 * m) 256 (256 ^ i)))
    ∙ ap (λ q. q / 256 ^ i % 256) cut
    ∙ sym (byte_of i m)

low_bytes_next : (n i x m : ℕ) → x < 256 → bytes_low_first (suc i) n (x + 256 * m) ≡ bytes_low_first i n m
low_bytes_next zero i x m h = refl
low_bytes_next (suc n) i x m h = rw (low_byte_next i x m h, low_bytes_next n (suc i) x m h) refl

-- the same with the lowest byte first
pub low_bytes_again : (n : ℕ) (xs : List ℕ) → length xs ≡ n → ((k : ℕ) → get_or xs k 0 < 256) → bytes_low_first 0 n (little_from 0 n xs) ≡ xs
low_bytes_again zero [] len small = refl
low_bytes_again zero (x ∷ xs) len small = absurd (omega arith)
low_bytes_again (suc n) [] len small = absurd (omega arith)
low_bytes_again (suc n) (x ∷ xs) len small =
    let tail : little_from 1 n (x ∷ xs) ≡ little_from 0 n xs = little_from-cons 0 n x xs in
    let first : (x + 256 * little_from 0 n xs) % 256 ≡ x = let h = small 0 in omega arith in
    let rest = low_bytes_next n 0 x (little_from 0 n xs) (small 0) in
    let last : bytes_low_first 0 n (little_from 0 n xs) ≡ xs = low_bytes_again n xs (omega arith) (λ k. small (suc k)) in
    rw (tail, first, rest, last) refl
