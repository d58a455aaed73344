-- The table of a batch, block 1 of the redo region: the image's size in 8 bytes, the number of blocks in 4,
-- zeros up to byte 16, and then the numbers of the blocks in 8 bytes each.
use Rattle.std.specs.Prelude.{ℕ, zero, suc, ◌+◌, Bool, true, nat_lt, nat_le, ◌==◌, ◌&&◌, List, [], ◌∷◌, length, drop, Option}
use Rattle.byteorder.specs.Endian.{big_number}
use Rattle.byte_fields.specs.Fields.{field, with_field}
use Rattle.byte_fields.specs.FirstFailing.{first_failing}
use Rattle.byte_fields.specs.Zeros.{zeros}
use Rattle.byte_fields.specs.declared.block.Block.{Block}
use Rattle.redo_area.specs.declared.TheConstants.{MAX_BATCH}
use Rattle.redo_area.specs.declared.faults.RedoFault.{RedoFault}
use Rattle.redo_area.specs.declared.faults.RedoFault.TheVariants.{Count, Size, Place}

-- so many numbers of eight bytes
abbrev pub numbers : ℕ → List ℕ → List ℕ
numbers zero bytes = []
numbers (suc n) bytes = big_number 8 bytes ∷ numbers n (drop 8 bytes)

unfoldable pub table_size : List ℕ → ℕ
table_size bytes = field 8 bytes 0

unfoldable pub table_count : List ℕ → ℕ
table_count bytes = field 4 bytes 8

unfoldable pub table_numbers : List ℕ → List ℕ
table_numbers bytes = numbers (table_count bytes) (drop 16 bytes)

-- the numbers of a batch
abbrev pub places : List (ℕ × Block) → List ℕ
places [] = []
places (p ∷ ps) = p.0 ∷ places ps

-- the bytes with these numbers from this place on
unfoldable pub put_numbers : List ℕ → ℕ → List ℕ → List ℕ
put_numbers [] at bytes = bytes
put_numbers (n ∷ ns) at bytes = put_numbers ns (at + 8) (with_field 8 bytes at n)

-- the table of these numbers, for an image of this size
unfoldable pub table_bytes : ℕ → List ℕ → List ℕ
table_bytes size ns = put_numbers ns 16 (with_field 4 (with_field 8 zeros 0 size) 8 (length ns))

-- the numbers rise, none is below this one, and each is below the size
abbrev pub rises : ℕ → ℕ → List ℕ → Bool
rises least size [] = true
rises least size (n ∷ ns) = nat_le least n && (nat_lt n size && rises (n + 1) size ns)

-- a batch has 1 to 160 blocks
unfoldable pub is_count : ℕ → Bool
is_count n = nat_lt 0 n && nat_le n MAX_BATCH

-- the first of a table's tests that fails, for an image of this size
unfoldable pub table_fault : ℕ → List ℕ → Option RedoFault
table_fault size bytes =
    first_failing ((is_count (table_count bytes), Count) ∷ (table_size bytes == size, Size) ∷ (rises 0 size (table_numbers bytes), Place) ∷ [])
