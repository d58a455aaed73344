-- The sectors of a group's block 0, and what stands in them.
use Rattle.std.specs.Prelude.{⊤, ℕ, ◌+◌, ◌*◌, ◌^◌, ◌<◌, List, [], ◌∷◌, map, take, drop}
use Rattle.std.specs.List.{splice, range_with_len, flat_map}
use Rattle.byteorder.specs.Endian.{big_bytes}
use Rattle.byte_fields.specs.Checksum.{checksum, blanked}
use Rattle.byte_fields.specs.Fields.{field, with_field, with_low_field}
use Rattle.ag_headers.specs.declared.head.Form.{Form}

-- sector number k of a block, of 512 bytes
abbrev pub sector : ℕ → List ℕ → List ℕ
sector k block = take 512 (drop (512 * k) block)

-- the block with these bytes in place of its sector number k
abbrev pub with_sector : ℕ → List ℕ → List ℕ → List ℕ
with_sector k block bytes = splice block (512 * k) (512 * k + 512) bytes

-- the 16 bytes of a UUID at this place
abbrev pub uuid_at : List ℕ → ℕ → List ℕ
uuid_at bytes at = take 16 (drop at bytes)

abbrev pub with_uuid : List ℕ → ℕ → List ℕ → List ℕ
with_uuid bytes at uuid = splice bytes at (at + 16) uuid

-- n numbers of four bytes, one after the other
unfoldable pub numbers_in : ℕ → List ℕ → List ℕ
numbers_in n bytes = map (λ i. field 4 bytes (4 * i)) (range_with_len 0 n)

-- the n numbers at this place
abbrev pub numbers_at : ℕ → List ℕ → ℕ → List ℕ
numbers_at n bytes at = numbers_in n (take (4 * n) (drop at bytes))

abbrev pub with_numbers : ℕ → List ℕ → ℕ → List ℕ → List ℕ
with_numbers n bytes at numbers = splice bytes at (at + 4 * n) (flat_map (big_bytes 4) numbers)

-- a table of places and of the numbers that stand there, each of four bytes: the bytes with them
abbrev pub with_table : List (ℕ × ℕ) → List ℕ → List ℕ
with_table [] bytes = bytes
with_table (row ∷ rows) bytes = with_table rows (with_field 4 bytes row.0 row.1)

-- each number of a table has four bytes
abbrev pub AllFit : List (ℕ × ℕ) → Type 0
AllFit [] = ⊤
AllFit (row ∷ rows) = (row.1 < 2 ^ 32) × AllFit rows

-- the bytes with their checksum at this place
unfoldable pub with_sum : List ℕ → ℕ → List ℕ
with_sum bytes at = with_low_field 4 bytes at (checksum (blanked bytes at))

-- the bytes with a UUID, a log sequence number and then their checksum, at the places that a head has for them
unfoldable pub stamped : Form → List ℕ → ℕ → List ℕ → List ℕ
stamped form uuid lsn bytes = with_sum (with_field 8 (with_uuid bytes form.uuid_at uuid) form.lsn_at lsn) form.sum_at
