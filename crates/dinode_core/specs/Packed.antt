-- A packed mapping: 128 bits, the highest first: unwritten 1, offset 54, block 52, count 21.
use Rattle.std.specs.Prelude.{ℕ, ◌+◌, ◌*◌, ◌/◌, ◌%◌, ◌^◌, ◌<◌, ◌==◌, if◌then◌else◌, List}
use Rattle.byteorder.specs.Endian.{big_number, big_bytes}
use Rattle.dinode_core.specs.declared.mapping.Mapping.{Mapping}

-- each number fits its bits
pub record FitsPacked (m : Mapping) : Type 0 where
  pub offset : m.offset < 2 ^ 54
  pub block : m.block < 2 ^ 52
  pub count : m.count < 2 ^ 21

abbrev pub bits_of : Mapping → ℕ
bits_of m = (if m.unwritten then 1 else 0) * 2 ^ 127 + m.offset * 2 ^ 73 + m.block * 2 ^ 21 + m.count

abbrev pub mapping_of : ℕ → Mapping
mapping_of bits = record {
  offset = bits / 2 ^ 73 % 2 ^ 54;
  block = bits / 2 ^ 21 % 2 ^ 52;
  count = bits % 2 ^ 21;
  unwritten = bits / 2 ^ 127 == 1;
}

-- the 16 bytes of a mapping
unfoldable pub packed : Mapping → List ℕ
packed m = big_bytes 16 (bits_of m)

-- the mapping in the first 16 bytes
unfoldable pub unpacked : List ℕ → Mapping
unpacked bytes = mapping_of (big_number 16 bytes)
