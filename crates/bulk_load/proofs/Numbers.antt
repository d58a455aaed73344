-- Items spread over blocks: how many there are, and how many each holds.
use Rattle.std.proofs.Common.{◌≡◌, ℕ, zero, suc, ◌+◌, ◌-◌, ◌*◌, ◌/◌, ◌%◌, ◌<◌, ◌≤◌, Bool, true, false, refl, arith}
use Rattle.std.specs.Prelude.{nat_lt, if◌then◌else◌, min}
use Rattle.std.specs.Int.{div_ceil}
use Rattle.std.proofs.Math.Nat.{div-add-mod, mod-lt, mul-le-mul_left, mul-le-mul_right}
use Rattle.std.proofs.lemmas.Bool.Decides.{nat_tests}
use Rattle.std.proofs.lemmas.Grind.{div_ceil_times}
use Rattle.bulk_load.specs.Shapes.{share, first_of, total}

pub lt_true : (a b : ℕ) → nat_lt a b ≡ true → a < b
lt_true a b h = grind (arith, nat_tests)

pub lt_false : (a b : ℕ) → nat_lt a b ≡ false → b ≤ a
lt_false a b h = grind (arith, nat_tests)

-- ---- the number of blocks

-- they hold all, and one block less would not
pub holds_all : (n m : ℕ) → 0 < m → n ≤ div_ceil n m * m
holds_all n m some = (div_ceil_times n m some).0

pub no_more : (n m : ℕ) → 0 < m → div_ceil n m * m < n + m
no_more n m some = (div_ceil_times n m some).1

pub some_blocks : (n m : ℕ) → 0 < m → 1 ≤ n → 1 ≤ div_ceil n m
some_blocks n m pos some = by_cases (nat_lt (div_ceil n m) 1) refl where
  by_cases : (c : Bool) → nat_lt (div_ceil n m) 1 ≡ c → 1 ≤ div_ceil n m
  by_cases true e = absurd (omega (arith, holds_all n m pos, mul-le-mul_right m (lt_true (div_ceil n m) 1 e)))
  by_cases false e = lt_false (div_ceil n m) 1 e

-- no more than items
pub at_most_items : (n m : ℕ) → 0 < m → 1 ≤ n → div_ceil n m ≤ n
at_most_items n m pos some = by_cases (nat_lt n (div_ceil n m)) refl where
  by_cases : (c : Bool) → nat_lt n (div_ceil n m) ≡ c → div_ceil n m ≤ n
  by_cases true e = absurd (omega (arith, no_more n m pos, mul-le-mul_right m (lt_true n (div_ceil n m) e), mul-le-mul_left n pos))
  by_cases false e = lt_false n (div_ceil n m) e

-- at most half as many as items, where these are several
pub halved : (n m : ℕ) → 4 ≤ m → 2 ≤ n → 2 * div_ceil n m ≤ n
halved n m four two = by_cases (nat_lt n (2 * div_ceil n m)) refl where
  by_cases : (c : Bool) → nat_lt n (2 * div_ceil n m) ≡ c → 2 * div_ceil n m ≤ n
  by_cases true e = absurd (omega (arith, no_more n m (omega arith), mul-le-mul_right m (lt_true n (2 * div_ceil n m) e), mul-le-mul_right n four, mul-le-mul_left m two))
  by_cases false e = lt_false n (2 * div_ceil n m) e

-- ---- what a block holds

two_ways : (c : Bool) (i r q : ℕ) → nat_lt i r ≡ c → (i * q + q) + min (i + 1) r ≡ (i * q + min i r) + (q + (if c then 1 else 0))
two_ways true i r q e = let h = lt_true i r e in omega arith
two_ways false i r q e = let h = lt_false i r e in omega arith

pub next_first : (n b i : ℕ) → first_of n b (i + 1) ≡ first_of n b i + share n b i
unfolding first_of share
next_first n b i = let h = two_ways (nat_lt i (n % b)) i (n % b) (n / b) refl in omega (arith, h)

pub none_first : (n b : ℕ) → first_of n b 0 ≡ 0
unfolding first_of
none_first n b = omega arith

pub all_first : (n b : ℕ) → 0 < b → first_of n b b ≡ n
unfolding first_of
all_first n b some = omega (arith, div-add-mod n b, mod-lt n some)

one_or_none : (c : Bool) → (if c then 1 else 0) ≤ 1
one_or_none true = omega arith
one_or_none false = omega arith

-- a block holds something where there is something for each
pub share_some : (n b i : ℕ) → 0 < b → b ≤ n → 1 ≤ share n b i
unfolding share
share_some n b i some le = by_cases (nat_lt (n / b) 1) refl where
  by_cases : (c : Bool) → nat_lt (n / b) 1 ≡ c → 1 ≤ n / b + (if nat_lt i (n % b) then 1 else 0)
  by_cases true e = absurd (omega (arith, div-add-mod n b, mod-lt n some, mul-le-mul_left b (lt_true (n / b) 1 e)))
  by_cases false e = omega (arith, lt_false (n / b) 1 e)

-- no block holds more than m, where the blocks are enough
pub share_most : (n b m i : ℕ) → 0 < b → n ≤ b * m → share n b i ≤ m
unfolding share
share_most n b m i some all = by_rest (nat_lt i (n % b)) refl where
  by_much : (c : Bool) → nat_lt m (n / b) ≡ c → n / b ≤ m
  by_much true e = absurd (omega (arith, div-add-mod n b, mul-le-mul_left b (lt_true m (n / b) e)))
  by_much false e = lt_false m (n / b) e

  by_more : (c : Bool) → nat_lt (n / b) m ≡ c → i < n % b → n / b + 1 ≤ m
  by_more true e rest = omega (arith, lt_true (n / b) m e)
  by_more false e rest = absurd (omega (arith, div-add-mod n b, mul-le-mul_left b (lt_false (n / b) m e)))

  by_rest : (c : Bool) → nat_lt i (n % b) ≡ c → n / b + (if c then 1 else 0) ≤ m
  by_rest true e = by_more (nat_lt (n / b) m) refl (lt_true i (n % b) e)
  by_rest false e = omega (arith, by_much (nat_lt m (n / b)) refl)

-- and none less than half of m, where there are several and one less would not do
pub share_least : (n b m h i : ℕ) → 2 ≤ b → b * m < n + m → 2 * h ≤ m → m ≤ 2 * h + 1 → h ≤ share n b i
unfolding share
share_least n b m h i two few half most = by_cases (nat_lt (n / b) h) refl where
  by_cases : (c : Bool) → nat_lt (n / b) h ≡ c → h ≤ n / b + (if nat_lt i (n % b) then 1 else 0)
  by_cases true e = absurd (omega (arith, div-add-mod n b, mod-lt n {m = b} (omega arith), mul-le-mul_left b (lt_true (n / b) h e), mul-le-mul_left b half, mul-le-mul_right h two))
  by_cases false e = omega (arith, lt_false (n / b) h e)

-- ---- sums

pub total_is : (f g : ℕ → ℕ) → g 0 ≡ 0 → ((i : ℕ) → g (i + 1) ≡ g i + f i) → (n : ℕ) → total n f ≡ g n
unfolding total
total_is f g none next zero = omega (arith, none)
total_is f g none next (suc n) =
    let e : n + 1 ≡ suc n = omega arith in
    let s : g (suc n) ≡ g n + f n = rw e at (next n) in
    omega (arith, total_is f g none next n, s)

-- what comes before a block is no more than all
pub firsts_fit : (n b i : ℕ) → 0 < b → i ≤ b → i * (n / b) + min i (n % b) ≤ n
firsts_fit n b i some le = omega (arith, div-add-mod n b, mod-lt n some, mul-le-mul_right (n / b) le)

-- what rises by steps
up_by : (g : ℕ → ℕ) → ((i : ℕ) → g i ≤ g (i + 1)) → (d a : ℕ) → g a ≤ g (a + d)
up_by g step zero a = let e : a + 0 ≡ a = omega arith in rw e (omega arith)
up_by g step (suc d) a =
    let e : (a + 1) + d ≡ a + suc d = omega arith in
    let h : g (a + 1) ≤ g (a + suc d) = rw e at (up_by g step d (a + 1)) in
    omega (arith, step a, h)

pub up : (g : ℕ → ℕ) → ((i : ℕ) → g i ≤ g (i + 1)) → (a b : ℕ) → a ≤ b → g a ≤ g b
up g step a b le = let e : a + (b - a) ≡ b = omega arith in rw e at (up_by g step (b - a) a)
