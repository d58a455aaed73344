-- The reverse mapping records and keys of a block: their places, order and range.
use Rattle.std.specs.Prelude.{ℕ, ◌+◌, ◌-◌, ◌*◌, ◌/◌, ◌%◌, ◌^◌, ◌==◌, nat_lt, nat_le, Bool, true, ◌&&◌, ◌||◌, not, if◌then◌else◌, List}
use Rattle.byte_fields.specs.Fields.{field, with_field}
use Rattle.sblock.specs.Form.{Form}
use Rattle.sblock.specs.declared.block.Bounds.{Bounds}
use Rattle.sblock.specs.declared.kind.Kind.TheVariants.{Rmap}
use Rattle.rmap_recs.specs.Owners.{is_inode}
use Rattle.rmap_recs.specs.Words.{key_word, is_attribute, is_fork_tree, is_unwritten, offset_of, is_word_right, is_fork_data, word_goes_on}
use Rattle.rmap_recs.specs.declared.records.RmapRec.{RmapRec}
use Rattle.rmap_recs.specs.declared.records.Key.{Key}

-- ---- places

-- a record has 24 bytes: start 4, count 4, owner 8, offset word 8
unfoldable pub rec_in : List ℕ → ℕ → RmapRec
rec_in area place = record {
  start = field 4 area place;
  count = field 4 area (place + 4);
  owner = field 8 area (place + 8);
  word = field 8 area (place + 16);
}

unfoldable pub with_rec : List ℕ → ℕ → RmapRec → List ℕ
with_rec area place r =
    with_field 8 (with_field 8 (with_field 4 (with_field 4 area place r.start) (place + 4) r.count) (place + 8) r.owner) (place + 16) r.word

-- record i of a leaf
abbrev pub rec_at : List ℕ → ℕ → RmapRec
rec_at area i = rec_in area (24 * i)

-- a key has 20 bytes: start 4, owner 8, offset word 8; the unwritten flag is ignored there
unfoldable pub key_in : List ℕ → ℕ → Key
key_in area place = record {
  start = field 4 area place;
  owner = field 8 area (place + 4);
  word = key_word (field 8 area (place + 12));
}

unfoldable pub with_key : List ℕ → ℕ → Key → List ℕ
with_key area place k = with_field 8 (with_field 8 (with_field 4 area place k.start) (place + 4) k.owner) (place + 12) (key_word k.word)

-- a key as it is read
abbrev pub cleared : Key → Key
cleared k = record { start = k.start; owner = k.owner; word = key_word k.word }

-- entry i of a node has the low key, then the high key
abbrev pub low_key_at : List ℕ → ℕ → Key
low_key_at area i = key_in area (40 * i)

abbrev pub high_key_at : List ℕ → ℕ → Key
high_key_at area i = key_in area (40 * i + 20)

abbrev pub with_keys : List ℕ → ℕ → Key → Key → List ℕ
with_keys area i low high = with_key (with_key area (40 * i) low) (40 * i + 20) high

-- ---- keys and their order

abbrev pub key_of : RmapRec → Key
key_of r = record { start = r.start; owner = r.owner; word = key_word r.word }

-- how far the offset of the last block is above the first one's
abbrev pub offset_growth : RmapRec → ℕ
offset_growth r = if is_fork_data r.owner r.word then r.count - 1 else 0

abbrev pub high_key_of : RmapRec → Key
high_key_of r = record { start = r.start + (r.count - 1); owner = r.owner; word = key_word (r.word + offset_growth r) }

-- its blocks have numbers, and for fork data its offsets
unfoldable pub has_end : RmapRec → Bool
has_end r = nat_le 1 r.count && nat_le (r.start + r.count) (2 ^ 32) && (not (is_fork_data r.owner r.word) || nat_le (offset_of r.word + r.count) (2 ^ 54))

-- the number comes first, or it is the same and the rest comes first
abbrev pub is_first : ℕ → ℕ → Bool → Bool
is_first a b rest = nat_lt a b || (a == b && rest)

-- by start, owner and offset word
unfoldable pub is_key_before : Key → Key → Bool
is_key_before a b = is_first a.start b.start (is_first a.owner b.owner (nat_lt (key_word a.word) (key_word b.word)))

-- ---- range

-- some blocks, at least one, that all lie in the group
abbrev pub is_in_group : Bounds → ℕ → ℕ → Bool
is_in_group bounds start count = nat_le 1 count && nat_le (start + count) bounds.length

-- an inode of this number has a place: its block exists
unfoldable pub has_place : Bounds → ℕ → Bool
has_place bounds ino =
    let group = ino / 8 / 2 ^ bounds.agblklog in
    let block = ino / 8 % 2 ^ bounds.agblklog in
    nat_lt group bounds.agcount && nat_lt block (if group + 1 == bounds.agcount then bounds.last else bounds.agblocks)

-- an inode that has a place and a word that fits, or one of the seven owners and no word
unfoldable pub is_owner_right : Bounds → RmapRec → Bool
is_owner_right bounds r =
    if is_inode r.owner then has_place bounds r.owner && is_word_right r.count r.word
    else nat_le r.owner (2 ^ 64 - 3) && (r.word == 0)

abbrev pub is_rec_in_range : Bounds → RmapRec → Bool
is_rec_in_range bounds r = is_in_group bounds r.start r.count && is_owner_right bounds r

-- the same blocks with the same owner, flags and offset
abbrev pub is_same_rec : RmapRec → RmapRec → Bool
is_same_rec a b = (a.start == b.start) && (a.count == b.count) && (a.owner == b.owner) && (a.word == b.word)

-- ---- the kind

abbrev pub rmap_form : Form RmapRec Key
rmap_form = record {
  kind = Rmap;
  record_at = rec_at;
  with_record = λ area i r. with_rec area (24 * i) r;
  key_at = low_key_at;
  high_key_at = high_key_at;
  with_keys = with_keys;
  key_of = key_of;
  has_end = has_end;
  high_key_of = high_key_of;
  is_before = is_key_before;
  is_in_range = is_rec_in_range;
  is_supported = λ r. true;
  is_written = λ r. true;
  is_same = is_same_rec;
  block_of = λ k. k.start;
  length_of = λ r. r.count;
}

-- ---- two records

-- the second begins at the first's end, with equal owner and flags, and for fork data at the
-- offset that comes then
abbrev pub can_join : RmapRec → RmapRec → Bool
can_join a b = (b.start == a.start + a.count) && (b.owner == a.owner) && word_goes_on a.owner a.word a.count b.word

-- blocks of an inode's data fork that were written: other files may have them too
unfoldable pub is_shareable : RmapRec → Bool
is_shareable r = is_inode r.owner && not (is_attribute r.word) && not (is_fork_tree r.word) && not (is_unwritten r.word)
