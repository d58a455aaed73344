-- Records of free space, which are keys too: a start and a count of blocks, four bytes each.
use Rattle.std.specs.Prelude.{ℕ, ◌+◌, ◌*◌, ◌==◌, nat_lt, nat_le, Bool, true, ◌&&◌, ◌||◌, List}
use Rattle.byte_fields.specs.Fields.{field, with_field}
use Rattle.sblock.specs.Form.{Form}
use Rattle.sblock.specs.declared.block.Bounds.{Bounds}
use Rattle.sblock.specs.declared.kind.Kind.{Kind}
use Rattle.sblock.specs.declared.kind.Kind.TheVariants.{Bno, Cnt}
use Rattle.span_recs.specs.declared.span.SpanRec.{SpanRec}

unfoldable pub start_at : List ℕ → ℕ → ℕ
start_at area i = field 4 area (8 * i)

unfoldable pub count_at : List ℕ → ℕ → ℕ
count_at area i = field 4 area (8 * i + 4)

abbrev pub span_at : List ℕ → ℕ → SpanRec
span_at area i = record { start = start_at area i; count = count_at area i }

-- the area with this record or key as number i
unfoldable pub with_span : List ℕ → ℕ → SpanRec → List ℕ
with_span area i r = with_field 4 (with_field 4 area (8 * i) r.start) (8 * i + 4) r.count

-- the blocks, at least one, lie in the group and behind its block 0
unfoldable pub is_span_in_range : Bounds → SpanRec → Bool
is_span_in_range bounds r = nat_le 1 r.start && nat_le 1 r.count && nat_le (r.start + r.count) bounds.length

-- the same blocks
abbrev pub is_same_span : SpanRec → SpanRec → Bool
is_same_span a b = (a.start == b.start) && (a.count == b.count)

abbrev pub is_before_by_start : SpanRec → SpanRec → Bool
is_before_by_start a b = nat_lt a.start b.start

-- the smaller count comes first, and the lower start where the counts are equal
unfoldable pub is_before_by_count : SpanRec → SpanRec → Bool
is_before_by_count a b = nat_lt a.count b.count || (a.count == b.count && nat_lt a.start b.start)

abbrev pub span_form : Kind → (SpanRec → SpanRec → Bool) → Form SpanRec SpanRec
span_form kind is_before = record {
  kind = kind;
  record_at = span_at;
  with_record = with_span;
  key_at = span_at;
  high_key_at = span_at;
  with_keys = λ area i low high. with_span area i low;
  key_of = λ r. r;
  has_end = λ r. true;
  high_key_of = λ r. r;
  is_before = is_before;
  is_in_range = is_span_in_range;
  is_supported = λ r. true;
  is_written = λ r. true;
  is_same = is_same_span;
  block_of = λ k. k.start;
  length_of = λ r. r.count;
}

abbrev pub bno_form : Form SpanRec SpanRec
bno_form = span_form Bno is_before_by_start

abbrev pub cnt_form : Form SpanRec SpanRec
cnt_form = span_form Cnt is_before_by_count
