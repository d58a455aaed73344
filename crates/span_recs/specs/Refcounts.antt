-- Records of the reference count btree: a start, a count of blocks and their reference count, four bytes each.
use Rattle.std.specs.Prelude.{ℕ, ◌+◌, ◌*◌, ◌^◌, ◌==◌, nat_lt, nat_le, Bool, true, ◌&&◌, List, if◌then◌else◌}
use Rattle.byte_fields.specs.Fields.{field, with_field}
use Rattle.sblock.specs.Form.{Form}
use Rattle.sblock.specs.declared.block.Bounds.{Bounds}
use Rattle.sblock.specs.declared.kind.Kind.TheVariants.{Refc}
use Rattle.span_recs.specs.declared.refcount.RefcRec.{RefcRec}
use Rattle.span_recs.specs.declared.refcount.RefcKey.{RefcKey}

unfoldable pub start_at : List ℕ → ℕ → ℕ
start_at area i = field 4 area (12 * i)

unfoldable pub count_at : List ℕ → ℕ → ℕ
count_at area i = field 4 area (12 * i + 4)

unfoldable pub refcount_at : List ℕ → ℕ → ℕ
refcount_at area i = field 4 area (12 * i + 8)

abbrev pub refc_at : List ℕ → ℕ → RefcRec
refc_at area i = record { start = start_at area i; count = count_at area i; refcount = refcount_at area i }

-- the area with this record as number i
unfoldable pub with_refc : List ℕ → ℕ → RefcRec → List ℕ
with_refc area i r = with_field 4 (with_field 4 (with_field 4 area (12 * i) r.start) (12 * i + 4) r.count) (12 * i + 8) r.refcount

unfoldable pub key_start_at : List ℕ → ℕ → ℕ
key_start_at area i = field 4 area (4 * i)

abbrev pub refc_key_at : List ℕ → ℕ → RefcKey
refc_key_at area i = record { start = key_start_at area i }

-- the area with this key as that of entry i
unfoldable pub with_refc_key : List ℕ → ℕ → RefcKey → List ℕ
with_refc_key area i k = with_field 4 area (4 * i) k.start

-- bit 31 of the start isn't set: the record isn't one of copy-on-write staging
unfoldable pub is_shared : RefcRec → Bool
is_shared r = nat_lt r.start (2 ^ 31)

-- the blocks, at least one, lie in the group and behind its block 0, and they are shared
unfoldable pub is_refc_in_range : Bounds → RefcRec → Bool
is_refc_in_range bounds r = nat_le 1 r.start && nat_le 1 r.count && nat_le (r.start + r.count) bounds.length && nat_le 2 r.refcount

-- the same blocks with the same reference count
abbrev pub is_same_refc : RefcRec → RefcRec → Bool
is_same_refc a b = (a.start == b.start) && (a.count == b.count) && (a.refcount == b.refcount)

abbrev pub refc_form : Form RefcRec RefcKey
refc_form = record {
  kind = Refc;
  record_at = refc_at;
  with_record = with_refc;
  key_at = refc_key_at;
  high_key_at = refc_key_at;
  with_keys = λ area i low high. with_refc_key area i low;
  key_of = λ r. record { start = r.start };
  has_end = λ r. true;
  high_key_of = λ r. record { start = r.start };
  is_before = λ a b. nat_lt a.start b.start;
  is_in_range = is_refc_in_range;
  is_supported = is_shared;
  is_written = λ r. true;
  is_same = is_same_refc;
  block_of = λ k. k.start;
  length_of = λ r. r.count;
}
