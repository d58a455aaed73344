-- The bytes of an inode that was written.
use Rattle.std.specs.Prelude.{◌≡◌, ℕ, ◌^◌, ◌<◌, ◌≤◌, ◌⊎◌, List, [], ◌∷◌, ◌++◌, length}
use Rattle.byte_fields.specs.Checksum.{checksum, blanked}
use Rattle.byte_fields.specs.Fields.{with_low_field}
use Rattle.dinode_core.specs.declared.inode.Core3.{Core3}
use Rattle.dinode_core.specs.Pieces.{Piece, number, with_pieces, IsOutside}

-- di_magic, di_mode, di_version, di_format, di_uid, di_nlink
unfoldable pub kind_pieces : Core3 → List Piece
kind_pieces core =
    number 2 0 0x494e ∷ number 2 2 core.mode ∷ number 1 4 3 ∷ number 1 5 core.format ∷ number 4 8 core.uid ∷ number 4 16 core.nlink ∷ []

-- di_big_nextents, di_nblocks, di_nextents, di_anextents, di_forkoff, di_aformat
unfoldable pub count_pieces : Core3 → List Piece
count_pieces core =
    number 8 24 core.big_nextents ∷ number 8 64 core.nblocks ∷ number 4 76 core.nextents ∷ number 2 80 core.anextents
    ∷ number 1 82 core.forkoff ∷ number 1 83 core.aformat ∷ []

-- di_flags, di_next_unlinked, di_changecount, di_lsn, di_flags2
unfoldable pub change_pieces : Core3 → List Piece
change_pieces core =
    number 2 90 core.flags ∷ number 4 96 core.next_unlinked ∷ number 8 104 core.changecount ∷ number 8 112 core.lsn
    ∷ number 8 120 core.flags2 ∷ []

-- di_ino, di_uuid, and the literal area
unfoldable pub name_pieces : Core3 → List Piece
name_pieces core =
    number 8 152 core.ino ∷ record { at = 160; width = 16; bytes = core.uuid } ∷ record { at = 176; width = 336; bytes = core.literal } ∷ []

-- all fields but the checksum
unfoldable pub core_pieces : Core3 → List Piece
core_pieces core = kind_pieces core ++ count_pieces core ++ change_pieces core ++ name_pieces core

-- the bytes with the fields put in, before the checksum follows them
unfoldable pub filled : Core3 → List ℕ → List ℕ
filled core bytes = with_pieces (core_pieces core) bytes

-- the bytes with this core, and its checksum (di_crc) at 100
unfoldable pub encoded : Core3 → List ℕ → List ℕ
encoded core bytes = with_low_field 4 (filled core bytes) 100 (checksum (blanked (filled core bytes) 100))

-- the numbers fit their bytes, and the areas have theirs
abbrev pub KindsFit : Core3 → Type 0
KindsFit core = (core.mode < 2 ^ 16) × (core.format < 2 ^ 8) × (core.uid < 2 ^ 32) × (core.nlink < 2 ^ 32)

abbrev pub CountsFit : Core3 → Type 0
CountsFit core =
    (core.big_nextents < 2 ^ 64) × (core.nblocks < 2 ^ 64) × (core.nextents < 2 ^ 32) × (core.anextents < 2 ^ 16)
    × (core.forkoff < 2 ^ 8) × (core.aformat < 2 ^ 8)

abbrev pub ChangesFit : Core3 → Type 0
ChangesFit core =
    (core.flags < 2 ^ 16) × (core.next_unlinked < 2 ^ 32) × (core.changecount < 2 ^ 64) × (core.lsn < 2 ^ 64)
    × (core.flags2 < 2 ^ 64)

abbrev pub NamesFit : Core3 → Type 0
NamesFit core = (core.ino < 2 ^ 64) × (length core.uuid ≡ 16) × (length core.literal ≡ 336)

-- the byte with this number belongs to no field
abbrev pub IsSpare : Core3 → ℕ → Type 0
IsSpare core i = IsOutside i (core_pieces core) × ((i < 100) ⊎ (104 ≤ i))
