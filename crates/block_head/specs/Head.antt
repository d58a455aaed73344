-- How the header of a block is written, and what a reader finds there.
use Rattle.std.specs.Prelude.{◌≡◌, ⊤, ℕ, ◌+◌, ◌*◌, ◌^◌, ◌<◌, true, List, [], ◌∷◌}
use Rattle.std.specs.List.{splice}
use Rattle.byte_fields.specs.Checksum.{checksum, blanked, has_sum}
use Rattle.byte_fields.specs.Fields.{field, with_field, with_low_field, has_uuid}
use Rattle.byte_fields.specs.Zeros.{zeros}
use Rattle.sblock.specs.Blocks.{numrecs}
use Rattle.sblock.specs.Headers.{level_of, left_of, right_of, place_of, owner_of}
use Rattle.sblock.specs.Kinds.{magic_of}
use Rattle.sblock.specs.declared.block.Frame.{Frame}
use Rattle.sblock.specs.declared.block.Header.{Header}
use Rattle.sblock.specs.declared.kind.Kind.{Kind}

-- numbers with their widths, one behind the other from this place on
abbrev pub with_numbers_from : ℕ → List ℕ → List (ℕ × ℕ) → List ℕ
with_numbers_from at bytes [] = bytes
with_numbers_from at bytes (f ∷ fs) = with_numbers_from (at + f.0) (with_field f.0 bytes at f.1) fs

abbrev pub with_numbers : List ℕ → List (ℕ × ℕ) → List ℕ
with_numbers bytes fs = with_numbers_from 0 bytes fs

-- each number has its width
abbrev pub AllFit : List (ℕ × ℕ) → Type 0
AllFit [] = ⊤
AllFit (f ∷ fs) = (f.1 < 256 ^ f.0) × AllFit fs

-- the numbers of a header up to its UUID
abbrev pub numbers_of : Kind → Header → ℕ → List (ℕ × ℕ)
numbers_of kind header place =
    (4, magic_of kind) ∷ (2, header.level) ∷ (2, header.numrecs) ∷ (4, header.left) ∷ (4, header.right) ∷ (8, place) ∷ (8, header.lsn) ∷ []

abbrev pub with_ids : List ℕ → List ℕ → ℕ → List ℕ
with_ids bytes uuid group = with_field 4 (splice bytes 32 48 uuid) 48 group

-- the UUID, the group, and the checksum over all of it
unfoldable pub with_seal : List ℕ → List ℕ → ℕ → List ℕ
with_seal bytes uuid group = with_low_field 4 (with_ids bytes uuid group) 52 (checksum (blanked (with_ids bytes uuid group) 52))

-- the bytes with these behind the header
unfoldable pub with_area : List ℕ → List ℕ → List ℕ
with_area bytes area = splice bytes 56 4096 area

-- a block of zeros with this area behind a header of these numbers, for block p of its group
unfoldable pub block_bytes : Kind → Header → Frame → ℕ → List ℕ → List ℕ
block_bytes kind header frame p area =
    with_seal (with_numbers (with_area zeros area) (numbers_of kind header (8 * (frame.first + p)))) frame.uuid frame.group

-- the header of a block of this kind that stands in block p of its group
pub record IsHeaded (kind : Kind) (header : Header) (frame : Frame) (p : ℕ) (bytes : List ℕ) : Type 0 where
  pub magic : field 4 bytes 0 ≡ magic_of kind
  pub level : level_of bytes ≡ header.level
  pub count : numrecs bytes ≡ header.numrecs
  pub left : left_of bytes ≡ header.left
  pub right : right_of bytes ≡ header.right
  pub place : place_of bytes ≡ 8 * (frame.first + p)
  pub lsn : field 8 bytes 24 ≡ header.lsn
  pub uuid : has_uuid bytes 32 frame.uuid ≡ true
  pub owner : owner_of bytes ≡ frame.group
  pub sum : has_sum bytes 52 ≡ true
