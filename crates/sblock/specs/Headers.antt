-- The header of a block: where its numbers stand.
use Rattle.std.specs.Prelude.{ℕ, List}
use Rattle.byte_fields.specs.Fields.{field}

-- a sibling that isn't there
abbrev pub no_block : ℕ
no_block = 0xffff_ffff

abbrev pub level_of : List ℕ → ℕ
level_of bytes = field 2 bytes 4

abbrev pub left_of : List ℕ → ℕ
left_of bytes = field 4 bytes 8

abbrev pub right_of : List ℕ → ℕ
right_of bytes = field 4 bytes 12

abbrev pub place_of : List ℕ → ℕ
place_of bytes = field 8 bytes 16

abbrev pub owner_of : List ℕ → ℕ
owner_of bytes = field 4 bytes 48
