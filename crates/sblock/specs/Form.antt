-- What a kind of tree means: how its records and keys are read and written, their order and range.
use Rattle.std.specs.Prelude.{◌≡◌, ◌≢◌, ◌⊎◌, ◌↔◌, ℕ, ◌+◌, ◌^◌, ◌<◌, ◌≤◌, Bool, true, false, not, ◌&&◌, List, length}
use Rattle.sblock.specs.Area.{with_child}
use Rattle.sblock.specs.Kinds.{node_most_of, has_high_keys_of}
use Rattle.sblock.specs.declared.block.Bounds.{Bounds}
use Rattle.sblock.specs.declared.kind.Kind.{Kind}
use Rattle.sblock.specs.declared.kind.Kind.TheVariants.{Cnt}

-- An area is the 4,040 bytes of a block behind its header.
pub record Form (R K : Type 0) : Type 0 where
  pub kind : Kind
  -- record i of a leaf, and the area with this record there
  pub record_at : List ℕ → ℕ → R
  pub with_record : List ℕ → ℕ → R → List ℕ
  -- the low and the high key of entry i of a node, and the area with these there
  pub key_at : List ℕ → ℕ → K
  pub high_key_at : List ℕ → ℕ → K
  pub with_keys : List ℕ → ℕ → K → K → List ℕ
  -- the least key of a record, whether its greatest one is made of numbers that fit, and that one
  pub key_of : R → K
  pub has_end : R → Bool
  pub high_key_of : R → K
  -- the first key comes before the second
  pub is_before : K → K → Bool
  pub is_in_range : Bounds → R → Bool
  -- the record is of a form that is supported
  pub is_supported : R → Bool
  -- the record is written as it stands, so that it is read again
  pub is_written : R → Bool
  -- the two records are one, in all their numbers
  pub is_same : R → R → Bool
  -- the group-relative block at which a key begins, and the number of blocks of a record
  pub block_of : K → ℕ
  pub length_of : R → ℕ

-- neither key comes before the other
abbrev pub same_key : {R K : Type 0} → Form R K → K → K → Bool
same_key form a b = not (form.is_before a b) && not (form.is_before b a)

pub record IsLawful {R K : Type 0} (form : Form R K) : Type 0 where
  -- no key comes before itself, the order goes through, and a key between two others is beside one
  pub strict : (a : K) → form.is_before a a ≡ false
  pub along : (a b c : K) → form.is_before a b ≡ true → form.is_before b c ≡ true → form.is_before a c ≡ true
  pub total : (a b c : K) → form.is_before a c ≡ true → (form.is_before a b ≡ true) ⊎ (form.is_before b c ≡ true)
  -- a record in range has a high key, which isn't before its key
  pub reaches : (bounds : Bounds) (r : R) → bounds.length < 2 ^ 32 → form.is_in_range bounds r ≡ true → form.has_end r ≡ true
  pub above : (r : R) → form.has_end r ≡ true → form.is_before (form.high_key_of r) (form.key_of r) ≡ false
  -- equality of records is decided
  pub same : (r s : R) → (form.is_same r s ≡ true) ↔ (r ≡ s)
  -- a later key begins at a later block or the same, but for the order by count
  pub starts : form.kind ≢ Cnt → (a b : K) → form.is_before a b ≡ false → form.block_of b ≤ form.block_of a
  -- a high key is at the record's last block
  pub ends : has_high_keys_of form.kind ≡ true → (r : R) → form.has_end r ≡ true → form.block_of (form.high_key_of r) + 1 ≡ form.block_of (form.key_of r) + form.length_of r
  -- a pointer that is written leaves the keys
  pub keys_stay : (area : List ℕ) (i j child : ℕ) → length area ≡ 4040 → i < node_most_of form.kind → j < node_most_of form.kind → form.key_at (with_child form.kind area i child) j ≡ form.key_at area j
  pub high_keys_stay : (area : List ℕ) (i j child : ℕ) → length area ≡ 4040 → i < node_most_of form.kind → j < node_most_of form.kind → form.high_key_at (with_child form.kind area i child) j ≡ form.high_key_at area j
