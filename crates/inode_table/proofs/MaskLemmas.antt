-- One bit of a mask turns, and the number of bits that are set follows.
use Rattle.std.proofs.Common.{◌≡◌, ◌≢◌, ℕ, suc, ◌+◌, ◌-◌, ◌*◌, ◌/◌, ◌%◌, ◌^◌, ◌<◌, refl, sym, ap, ◌∙◌, arith}
use Rattle.std.proofs.Common.{inl, inr, min, bit_and, w64}
use Rattle.std.specs.Int.{bit_not}
use Rattle.std.proofs.Math.Nat.{add-mul, div-add-mod, mul_comm, mod-lt}
use Rattle.std.proofs.lemmas.Bool.{cases_lt}
use Rattle.std.proofs.lemmas.Nat.Bits.{bit_at_and, bit_at_above, bit_at_clear_other}
use Rattle.std.specs.Int.{bit_at}
use Rattle.std.specs.Int.Count.{ones}
use Rattle.std.proofs.lemmas.Nat.{ones_cat, pow_pos}
use Rattle.std.proofs.lemmas.Nat.Bits.{bit_at_cat_low, bit_at_cat_high, bit_at-suc, same_from_bits, same_from_bits_below}

-- a number is its high digits behind its low ones
parts : (n k : ℕ) → n ≡ n / 2 ^ k * 2 ^ k + n % 2 ^ k
parts n k = sym (div-add-mod n (2 ^ k)) ∙ ap (λ x. x + n % 2 ^ k) (mul_comm (2 ^ k) (n / 2 ^ k))

low_fits : (n k : ℕ) → n % 2 ^ k < 2 ^ k
low_fits n k = mod-lt n (pow_pos k)

low_bit : (n k i : ℕ) → i < k → bit_at (n % 2 ^ k) i ≡ bit_at n i
low_bit n k i h = sym (bit_at_cat_low (n / 2 ^ k) k (n % 2 ^ k) i h) ∙ ap (λ x. bit_at x i) (sym (parts n k))

high_bit : (n k i : ℕ) → bit_at (n / 2 ^ k) i ≡ bit_at n (i + k)
high_bit n k i =
    let at = bit_at_cat_high (n / 2 ^ k) k (n % 2 ^ k) (i + k) (low_fits n k) (omega arith) in
    let e : i + k - k ≡ i = omega arith in
    sym (ap (λ x. bit_at x (i + k)) (parts n k) ∙ at ∙ ap (λ x. bit_at (n / 2 ^ k) x) e)

-- the second number has one bit more, and the others alike
pub record OneMore (n m k : ℕ) : Type 0 where
  pub clear : bit_at n k ≡ 0
  pub set : bit_at m k ≡ 1
  pub others : (i : ℕ) → i ≢ k → bit_at m i ≡ bit_at n i

same_low : (n m k : ℕ) → OneMore n m k → m % 2 ^ k ≡ n % 2 ^ k
same_low n m k h = same_from_bits_below k (m % 2 ^ k) (n % 2 ^ k) (low_fits m k) (low_fits n k) (λ i l. low_bit m k i l ∙ h.others i (omega (arith, l)) ∙ sym (low_bit n k i l))

same_half : (n m k : ℕ) → OneMore n m k → m / 2 ^ k / 2 ≡ n / 2 ^ k / 2
same_half n m k h = same_from_bits (m / 2 ^ k / 2) (n / 2 ^ k / 2) (λ i. sym (bit_at-suc (m / 2 ^ k) i) ∙ high_bit m k (suc i) ∙ h.others (suc i + k) (omega arith) ∙ sym (high_bit n k (suc i)) ∙ bit_at-suc (n / 2 ^ k) i)

-- the ones of a number are those of its high and of its low digits
ones_parts : (n k : ℕ) → ones n ≡ ones (n / 2 ^ k) + ones (n % 2 ^ k)
ones_parts n k = ap ones (parts n k) ∙ ones_cat k (n / 2 ^ k) (n % 2 ^ k) (low_fits n k)

half_parts : (n : ℕ) → ones n ≡ ones (n / 2) + ones (n % 2)
half_parts n = ap ones (parts n 1) ∙ ones_cat 1 (n / 2) (n % 2) (low_fits n 1)

bit_here : (n k : ℕ) → n / 2 ^ k % 2 ≡ bit_at n k
bit_here n k = refl

ones_zero : ones 0 ≡ 0
unfolding ones
ones_zero = refl

ones_one : ones 1 ≡ 1
unfolding ones
ones_one = refl

pub one_more : (n m k : ℕ) → OneMore n m k → ones m ≡ ones n + 1
one_more n m k h =
    let a = ones_parts n k in
    let b = ones_parts m k in
    let c : ones (n / 2 ^ k) ≡ ones (n / 2 ^ k / 2) + 0 = half_parts (n / 2 ^ k) ∙ ap (λ x. ones (n / 2 ^ k / 2) + x) (ap ones h.clear ∙ ones_zero) in
    let d : ones (m / 2 ^ k) ≡ ones (m / 2 ^ k / 2) + 1 = half_parts (m / 2 ^ k) ∙ ap (λ x. ones (m / 2 ^ k / 2) + x) (ap ones h.set ∙ ones_one) in
    sums (ones n) (ones m) (ones (n / 2 ^ k)) (ones (m / 2 ^ k)) (ones (n % 2 ^ k)) (ones (m % 2 ^ k)) (ones (n / 2 ^ k / 2)) (ones (m / 2 ^ k / 2)) a b c d (ap ones (same_low n m k h)) (ap ones (same_half n m k h))
  where
    sums : (p q nh mh nl ml nd md : ℕ) → p ≡ nh + nl → q ≡ mh + ml → nh ≡ nd + 0 → mh ≡ md + 1 → ml ≡ nl → md ≡ nd → q ≡ p + 1
    sums p q nh mh nl ml nd md a b c d e f = omega arith

-- so the numbers themselves differ by that bit's
pub sum_more : (n m k : ℕ) → OneMore n m k → m ≡ n + 2 ^ k
sum_more n m k h =
    sums (2 ^ k) (n / 2 ^ k) (m / 2 ^ k) (n % 2 ^ k) (m % 2 ^ k) n m (parts n k) (parts m k) (same_low n m k h) (halves (n / 2 ^ k) (m / 2 ^ k) (same_half n m k h) h.clear h.set)
  where
    halves : (x y : ℕ) → y / 2 ≡ x / 2 → x % 2 ≡ 0 → y % 2 ≡ 1 → y ≡ x + 1
    halves x y e f g = let a = parts x 1 in let b = parts y 1 in omega (arith, a, b, e, f, g)

    sums : (p x y l r n m : ℕ) → n ≡ x * p + l → m ≡ y * p + r → r ≡ l → y ≡ x + 1 → m ≡ n + p
    sums p x y l r n m a b e f =
        let g : y * p ≡ x * p + 1 * p = ap (λ (t : ℕ). t * p) f ∙ add-mul x 1 p in
        omega (arith, a, b, e, g)

min_none : (x : ℕ) → min 0 x ≡ 0
min_none x = omega arith

-- a bit that is cleared leaves the others, those above the word too
pub clear_other : (n k : ℕ) → n < 2 ^ 64 → k < 64 → (i : ℕ) → i ≢ k → bit_at (bit_and n (bit_not w64 (1 * 2 ^ k % 2 ^ 64))) i ≡ bit_at n i
clear_other n k small inside i other = elim (cases_lt i 64) [
  | inl below ↦ bit_at_clear_other w64 n k inside i below other
  | inr above ↦ above_all (bit_at_above n 64 i small above)
]
  where
    above_all : bit_at n i ≡ 0 → bit_at (bit_and n (bit_not w64 (1 * 2 ^ k % 2 ^ 64))) i ≡ bit_at n i
    above_all z = bit_at_and n (bit_not w64 (1 * 2 ^ k % 2 ^ 64)) i ∙ ap (λ x. min x (bit_at (bit_not w64 (1 * 2 ^ k % 2 ^ 64)) i)) z ∙ min_none (bit_at (bit_not w64 (1 * 2 ^ k % 2 ^ 64)) i) ∙ sym z
