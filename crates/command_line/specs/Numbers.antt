-- Decimal numbers of words: digits without a sign and without a leading zero, below 2^32.
use Rattle.std.specs.Prelude.{ℕ, List, [], ◌∷◌, Option, Some, None, Bool, ◌+◌, ◌-◌, ◌*◌, ◌^◌, ◌&&◌, ◌==◌, nat_lt, if◌then◌else◌}

abbrev pub is_digit : ℕ → Bool
is_digit b = nat_lt 47 b && nat_lt b 58

-- the number n with one more digit behind it
abbrev pub with_digit : ℕ → ℕ → ℕ
with_digit n b = 10 * n + (b - 48)

-- the number whose digits so far make n, where it stays below 2^32
unfoldable pub value_from : ℕ → List ℕ → Option ℕ
value_from n [] = Some n
value_from n (b ∷ bs) = if is_digit b && nat_lt (with_digit n b) (2 ^ 32) then value_from (with_digit n b) bs else None

-- zero is its digit alone
abbrev pub zero_alone : List ℕ → Option ℕ
zero_alone [] = Some 0
zero_alone (b ∷ bs) = None

unfoldable pub number_of : List ℕ → Option ℕ
number_of [] = None
number_of (b ∷ bs) = if b == 48 then zero_alone bs else value_from 0 (b ∷ bs)
