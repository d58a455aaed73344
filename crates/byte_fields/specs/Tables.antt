-- Tables of the remainders after a byte and the zeros that follow it.
use Rattle.std.specs.Prelude.{ℕ, zero, suc, ◌/◌, ◌%◌, ◌^◌, ◌==◌, ◌&&◌, Bool, true, false, if◌then◌else◌, List, [], ◌∷◌, ◌++◌, bit_xor}
use Rattle.byte_fields.specs.Checksum.{after_bits}

-- the remainder after n bytes, each of eight bits that are zero
unfoldable pub after_zeros : ℕ → ℕ → ℕ
after_zeros zero c = c
after_zeros (suc n) c = after_zeros n (after_bits 8 c)

-- the same as `after_bit` and `after_zeros`, in words that compute in every goal
abbrev pub next : ℕ → ℕ
next c = if c % 2 == 1 then bit_xor (c / 2) 0x82F6_3B78 else c / 2

abbrev pub next_zeros : ℕ → ℕ → ℕ
next_zeros zero c = c
next_zeros (suc n) c = next_zeros n (next (next (next (next (next (next (next (next c))))))))

-- the remainder r over each of these
abbrev pub laid_over : ℕ → List ℕ → List ℕ
laid_over r [] = []
laid_over r (x ∷ xs) = bit_xor r x ∷ laid_over r xs

-- the remainders of all bytes of k bits, after n bytes: those whose highest bit is one are the
-- others with that bit's remainder over them
abbrev pub table : ℕ → ℕ → List ℕ
table n zero = 0 ∷ []
table n (suc k) = table n k ++ laid_over (next_zeros n (2 ^ k)) (table n k)

abbrev pub are_same : List ℕ → List ℕ → Bool
are_same [] [] = true
are_same [] (y ∷ ys) = false
are_same (x ∷ xs) [] = false
are_same (x ∷ xs) (y ∷ ys) = (x == y) && are_same xs ys

-- entry i is the remainder of the byte i after n bytes
abbrev pub is_table : ℕ → List ℕ → Bool
is_table n xs = are_same xs (table n 8)
