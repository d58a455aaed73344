-- Records of the two inode btrees: a chunk of 64 inodes, where it has holes, how many inodes it
-- has and how many of them are free, and a bit for each that is free.
use Rattle.std.specs.Prelude.{ℕ, ◌+◌, ◌*◌, ◌/◌, ◌%◌, ◌==◌, nat_lt, nat_le, Bool, true, not, ◌&&◌, List, count_ones, if◌then◌else◌}
use Rattle.byte_fields.specs.Fields.{field, with_field}
use Rattle.sblock.specs.Form.{Form}
use Rattle.sblock.specs.declared.block.Bounds.{Bounds}
use Rattle.sblock.specs.declared.kind.Kind.{Kind}
use Rattle.sblock.specs.declared.kind.Kind.TheVariants.{Ino, Fino}
use Rattle.ino_recs.specs.declared.chunk.InoRec.{InoRec}
use Rattle.ino_recs.specs.declared.chunk.InoKey.{InoKey}

unfoldable pub startino_at : List ℕ → ℕ → ℕ
startino_at area i = field 4 area (16 * i)

unfoldable pub holemask_at : List ℕ → ℕ → ℕ
holemask_at area i = field 2 area (16 * i + 4)

unfoldable pub count_at : List ℕ → ℕ → ℕ
count_at area i = field 1 area (16 * i + 6)

unfoldable pub freecount_at : List ℕ → ℕ → ℕ
freecount_at area i = field 1 area (16 * i + 7)

unfoldable pub free_at : List ℕ → ℕ → ℕ
free_at area i = field 8 area (16 * i + 8)

abbrev pub ino_at : List ℕ → ℕ → InoRec
ino_at area i = record { startino = startino_at area i; holemask = holemask_at area i; count = count_at area i; freecount = freecount_at area i; free = free_at area i }

-- the area with this record as number i
unfoldable pub with_ino : List ℕ → ℕ → InoRec → List ℕ
with_ino area i r =
    let chunk = with_field 2 (with_field 4 area (16 * i) r.startino) (16 * i + 4) r.holemask in
    let counted = with_field 1 (with_field 1 chunk (16 * i + 6) r.count) (16 * i + 7) r.freecount in
    with_field 8 counted (16 * i + 8) r.free

unfoldable pub key_startino_at : List ℕ → ℕ → ℕ
key_startino_at area i = field 4 area (4 * i)

abbrev pub ino_key_at : List ℕ → ℕ → InoKey
ino_key_at area i = record { startino = key_startino_at area i }

-- the area with this key as that of entry i
unfoldable pub with_ino_key : List ℕ → ℕ → InoKey → List ℕ
with_ino_key area i k = with_field 4 area (4 * i) k.startino

-- the record has no holes
unfoldable pub is_whole : InoRec → Bool
is_whole r = r.holemask == 0

-- the 64 inodes fill 8 blocks, aligned to as many, that lie in the group and behind its first 8;
-- and as many inodes are free as bits are set
unfoldable pub is_ino_in_range : Bounds → InoRec → Bool
is_ino_in_range bounds r =
    (r.startino % 64 == 0) && nat_le 64 r.startino && nat_le (r.startino / 8 + 8) bounds.length && (r.count == 64) && (r.freecount == count_ones r.free)

-- the same, and some inode is free
unfoldable pub is_fino_in_range : Bounds → InoRec → Bool
is_fino_in_range bounds r = is_ino_in_range bounds r && not (r.freecount == 0)

-- the same chunk with the same holes, counts and mask
abbrev pub is_same_chunk : InoRec → InoRec → Bool
is_same_chunk a b = (a.startino == b.startino) && (a.holemask == b.holemask) && (a.count == b.count) && (a.freecount == b.freecount) && (a.free == b.free)

abbrev pub chunk_form : Kind → (Bounds → InoRec → Bool) → Form InoRec InoKey
chunk_form kind is_in_range = record {
  kind = kind;
  record_at = ino_at;
  with_record = with_ino;
  key_at = ino_key_at;
  high_key_at = ino_key_at;
  with_keys = λ area i low high. with_ino_key area i low;
  key_of = λ r. record { startino = r.startino };
  has_end = λ r. true;
  high_key_of = λ r. record { startino = r.startino };
  is_before = λ a b. nat_lt a.startino b.startino;
  is_in_range = is_in_range;
  is_supported = is_whole;
  is_written = λ r. true;
  is_same = is_same_chunk;
  block_of = λ k. k.startino / 8;
  length_of = λ r. if is_whole r then 8 else 0;
}

abbrev pub ino_form : Form InoRec InoKey
ino_form = chunk_form Ino is_ino_in_range

abbrev pub fino_form : Form InoRec InoKey
fino_form = chunk_form Fino is_fino_in_range
