-- The kind of tree that this crate's tests read: each record is one number, its own key.
use Rattle.std.specs.Prelude.{ℕ, ◌*◌, ◌^◌, ◌==◌, nat_lt, true, List}
use Rattle.byte_fields.specs.Fields.{field, with_field}
use Rattle.sblock.specs.Form.{Form}
use Rattle.sblock.specs.declared.kind.Kind.TheVariants.{Ino}

unfoldable pub number_at : List ℕ → ℕ → ℕ
number_at area at = field 4 area at

unfoldable pub with_number : List ℕ → ℕ → ℕ → List ℕ
with_number area at n = with_field 4 area at n

abbrev pub counted : Form ℕ ℕ
counted = record {
  kind = Ino;
  record_at = λ area i. number_at area (16 * i);
  with_record = λ area i n. with_number area (16 * i) n;
  key_at = λ area i. number_at area (4 * i);
  high_key_at = λ area i. number_at area (4 * i);
  with_keys = λ area i low high. with_number area (4 * i) low;
  key_of = λ n. n;
  has_end = λ n. true;
  high_key_of = λ n. n;
  is_before = nat_lt;
  is_in_range = λ bounds n. nat_lt n bounds.length;
  is_supported = λ n. nat_lt n (2 ^ 31);
  is_written = λ n. true;
  is_same = λ a b. a == b;
  block_of = λ n. n;
  length_of = λ n. 1;
}
