-- The blocks of a new tree. They are numbered from the leaves up and on each level from left to right,
-- so that the root is the last one, and each stands in the claimed block of its number.
use Rattle.std.specs.Prelude.{◌≡◌, ⊤, ℕ, zero, suc, ◌+◌, ◌-◌, ◌*◌, ◌==◌, ◌&&◌, ◌||◌, not, ◌<◌, ◌≤◌, true, if◌then◌else◌, List, [], ◌∷◌, ◌++◌, length, take, drop, min, slice_index, All, Option, Some, None}
use Rattle.byte_fields.specs.Checksum.{has_sum}
use Rattle.byte_fields.specs.Fields.{field, has_uuid}
use Rattle.byte_fields.specs.declared.block.Block.{Block}
use Rattle.sblock.specs.Area.{area_of, child_of, with_child}
use Rattle.sblock.specs.Blocks.{numrecs}
use Rattle.sblock.specs.Form.{Form, same_key}
use Rattle.sblock.specs.Headers.{no_block, level_of, left_of, right_of, place_of, owner_of}
use Rattle.sblock.specs.Kinds.{magic_of, has_high_keys_of}
use Rattle.sblock.specs.Lists.{items_from}
use Rattle.sblock.specs.Spans.{span_of}
use Rattle.sblock.specs.declared.block.Frame.{Frame}
use Rattle.sblock.specs.declared.block.Header.{Header}
use Rattle.sblock.specs.declared.kind.Kind.{Kind}
use Rattle.sblock.specs.declared.spans.Span.{Span}
use Rattle.bulk_load.specs.Leaf.{block_bytes, with_records, empty_area}
use Rattle.bulk_load.specs.Shapes.{width, start, count, begin, first_record}

-- the items from one number on, below another
abbrev pub piece : {A : Type 0} → List A → ℕ → ℕ → List A
piece xs from to = take (to - from) (drop from xs)

-- the header of a block of this kind that stands in block p of its group
pub record IsHeaded (kind : Kind) (header : Header) (frame : Frame) (p : ℕ) (bytes : List ℕ) : Type 0 where
  pub magic : field 4 bytes 0 ≡ magic_of kind
  pub level : level_of bytes ≡ header.level
  pub count : numrecs bytes ≡ header.numrecs
  pub left : left_of bytes ≡ header.left
  pub right : right_of bytes ≡ header.right
  pub place : place_of bytes ≡ 8 * (frame.first + p)
  pub lsn : field 8 bytes 24 ≡ header.lsn
  pub uuid : has_uuid bytes 32 frame.uuid ≡ true
  pub owner : owner_of bytes ≡ frame.group
  pub sum : has_sum bytes 52 ≡ true

-- these are the keys of some records, the high one where the kind has it
abbrev pub AreKeys : {R K : Type 0} → Form R K → K → K → Option (Span K) → Type 0
AreKeys form low high None = ⊤
AreKeys form low high (Some s) = (same_key form low s.low ≡ true) × (has_high_keys_of form.kind ≡ true → same_key form high s.high ≡ true)

-- the area with these keys as those of entry e, where there are any
abbrev pub with_span : {R K : Type 0} → Form R K → List ℕ → ℕ → Option (Span K) → List ℕ
with_span form area e None = area
with_span form area e (Some s) = form.with_keys area e s.low s.high

module _ (kind : Kind) (n : ℕ) (claimed : List ℕ) where
  -- the claimed block for block i of level j
  abbrev pub at_level : ℕ → ℕ → ℕ
  at_level j i = slice_index claimed (start kind n j + i)

  abbrev pub left_for : ℕ → ℕ → ℕ
  left_for j i = if i == 0 then no_block else at_level j (i - 1)

  abbrev pub right_for : ℕ → ℕ → ℕ
  right_for j i = if i + 1 == width kind n j then no_block else at_level j (i + 1)

  -- the numbers of its header
  abbrev pub header_for : ℕ → ℕ → ℕ → Header
  header_for lsn j i = record { level = j; numrecs = count kind n j i; left = left_for j i; right = right_for j i; lsn = lsn }

module _ {R K : Type 0} (form : Form R K) (list : List R) where
  -- the records below block i of level j
  abbrev pub below : ℕ → ℕ → List R
  below j i = piece list (first_record form.kind (length list) j i) (first_record form.kind (length list) j (i + 1))

  -- these records, as far as the kind writes them as they stand, are a leaf's
  abbrev pub HasRecords : List ℕ → Type 0
  HasRecords area = All (λ r. form.is_written r ≡ true) list → items_from (form.record_at area) (length list) 0 ≡ list

module _ {R K : Type 0} (form : Form R K) (list : List R) (claimed : List ℕ) where
  -- entry e of a node leads to block c of level j, and has the keys of the records below it
  pub record IsEntry (j c : ℕ) (area : List ℕ) (e : ℕ) : Type 0 where
    pub child : child_of form.kind area e ≡ at_level form.kind (length list) claimed j c
    pub keys : AreKeys form (form.key_at area e) (form.high_key_at area e) (span_of form (below form list j c))

  -- the first n entries of a node that begins with block c of level j
  abbrev pub AreEntries : ℕ → ℕ → List ℕ → ℕ → Type 0
  AreEntries j c area n = (e : ℕ) → e < n → IsEntry j (c + e) area e

  -- What block i of a level has behind its header: a leaf its records, a node an entry for each child.
  abbrev pub Has : ℕ → ℕ → List ℕ → Type 0
  Has zero i area = HasRecords form (below form list zero i) area
  Has (suc j) i area = AreEntries j (begin form.kind (length list) (suc j) i) area (count form.kind (length list) (suc j) i)

  -- the area in which entry e leads to block c of level j, and has the keys of the records below it as the kind stores them
  abbrev pub with_entry : ℕ → ℕ → List ℕ → ℕ → List ℕ
  with_entry j c area e = with_child form.kind (with_span form area e (span_of form (below form list j c))) e (at_level form.kind (length list) claimed j c)

  -- the first n entries of a node that begins with block c of level j
  unfoldable pub with_entries : ℕ → ℕ → ℕ → List ℕ → List ℕ
  with_entries j c zero area = area
  with_entries j c (suc n) area = with_entry j (c + n) (with_entries j c n area) n

  -- each byte behind the header of block i of a level: its records or entries, and zeros where none of them stands
  unfoldable pub area_bytes : ℕ → ℕ → List ℕ
  area_bytes zero i = with_records form (below form list zero i) 0 empty_area
  area_bytes (suc j) i = with_entries j (begin form.kind (length list) (suc j) i) (count form.kind (length list) (suc j) i) empty_area

  -- these bytes are block i of level j: what a reader finds in them, and each of them
  pub record IsLaid (frame : Frame) (j i : ℕ) (bytes : List ℕ) : Type 0 where
    pub head : IsHeaded form.kind (header_for form.kind (length list) claimed frame.lsn j i) frame (at_level form.kind (length list) claimed j i) bytes
    pub has : Has j i (area_of bytes)
    pub exact : bytes ≡ block_bytes form.kind (header_for form.kind (length list) claimed frame.lsn j i) frame (at_level form.kind (length list) claimed j i) (area_bytes j i)

  -- these bytes are block number k
  abbrev pub IsNumber : Frame → ℕ → List ℕ → Type 0
  IsNumber frame k bytes = (j i : ℕ) → i < width form.kind (length list) j → start form.kind (length list) j + i ≡ k → IsLaid frame j i bytes

  -- blocks from number k on, each with the claimed block of its number
  abbrev pub AreLaid : Frame → ℕ → List (ℕ × Block) → Type 0
  AreLaid frame k [] = ⊤
  AreLaid frame k (e ∷ es) = (e.0 ≡ slice_index claimed k) × IsNumber frame k e.1.bytes × AreLaid frame (k + 1) es

  -- a list was lengthened by the blocks from one number on, below another
  pub record IsLoaded (frame : Frame) (from to : ℕ) (old new : List (ℕ × Block)) : Type 0 where
    pub more : List (ℕ × Block)
    pub behind : new ≡ old ++ more
    pub many : from + length more ≡ to
    pub laid : AreLaid frame from more
