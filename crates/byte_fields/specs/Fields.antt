-- The numbers that stand in a list of bytes.
use Rattle.std.specs.Prelude.{ℕ, ◌+◌, Bool, List, take, drop}
use Rattle.std.specs.List.{splice}
use Rattle.std.specs.Str.{bytes_eq}
use Rattle.byteorder.specs.Endian.{big_number, big_bytes, little_number, little_bytes}

-- the number in the n bytes at this offset, the highest byte first
abbrev pub field : ℕ → List ℕ → ℕ → ℕ
field n bytes at = big_number n (drop at bytes)

-- the same, the lowest byte first
abbrev pub low_field : ℕ → List ℕ → ℕ → ℕ
low_field n bytes at = little_number n (drop at bytes)

-- the bytes with the n bytes of a number at this offset, and all others as they were
abbrev pub with_field : ℕ → List ℕ → ℕ → ℕ → List ℕ
with_field n bytes at value = splice bytes at (at + n) (big_bytes n value)

-- the same, the lowest byte first
abbrev pub with_low_field : ℕ → List ℕ → ℕ → ℕ → List ℕ
with_low_field n bytes at value = splice bytes at (at + n) (little_bytes n value)

-- the 16 bytes at this offset are those of the file system's UUID
unfoldable pub has_uuid : List ℕ → ℕ → List ℕ → Bool
has_uuid bytes at uuid = bytes_eq (take 16 (drop at bytes)) uuid
