-- CRC-32C: the Castagnoli polynomial, lowest bit first, from all ones, complemented.
use Rattle.std.specs.Prelude.{ℕ, zero, suc, ◌+◌, ◌-◌, ◌/◌, ◌%◌, ◌^◌, ◌==◌, Bool, if◌then◌else◌, List, [], ◌∷◌, ◌++◌, take, drop, replicate, bit_xor}
use Rattle.byte_fields.specs.Fields.{low_field}

-- the remainder after one more bit
unfoldable pub after_bit : ℕ → ℕ
after_bit c = if c % 2 == 1 then bit_xor (c / 2) 0x82F6_3B78 else c / 2

-- after n bits
unfoldable pub after_bits : ℕ → ℕ → ℕ
after_bits zero c = c
after_bits (suc n) c = after_bits n (after_bit c)

-- after a byte
unfoldable pub after_byte : ℕ → ℕ → ℕ
after_byte c b = after_bits 8 (bit_xor c b)

-- after all bytes
unfoldable pub after_bytes : ℕ → List ℕ → ℕ
after_bytes c [] = c
after_bytes c (b ∷ bs) = after_bytes (after_byte c b) bs

-- the checksum of these bytes
unfoldable pub checksum : List ℕ → ℕ
checksum bytes = bit_xor (after_bytes (2 ^ 32 - 1) bytes) (2 ^ 32 - 1)

-- the bytes with the four at this place taken as zero
unfoldable pub blanked : List ℕ → ℕ → List ℕ
blanked bytes at = take at bytes ++ replicate 4 0 ++ drop (at + 4) bytes

-- the checksum that is stored at this offset, lowest byte first, is that of the bytes
unfoldable pub has_sum : List ℕ → ℕ → Bool
has_sum bytes at = low_field 4 bytes at == checksum (blanked bytes at)
