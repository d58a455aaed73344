-- One block: its tests in their order, its header, and its records or its keys and pointers.
use Rattle.std.specs.Prelude.{ℕ, ◌+◌, ◌-◌, ◌==◌, nat_le, nat_lt, Bool, not, ◌&&◌, ◌||◌, if◌then◌else◌, List, [], ◌∷◌, Option}
use Rattle.byte_fields.specs.Below.{all_below}
use Rattle.byte_fields.specs.Checksum.{has_sum}
use Rattle.byte_fields.specs.Fields.{field, has_uuid}
use Rattle.byte_fields.specs.FirstFailing.{first_failing}
use Rattle.sblock.specs.Area.{area_of, child_of}
use Rattle.sblock.specs.Form.{Form}
use Rattle.sblock.specs.Kinds.{magic_of, leaf_most_of, leaf_least_of, node_most_of, node_least_of}
use Rattle.sblock.specs.Lists.{items_from, Rises, Each}
use Rattle.sblock.specs.declared.block.BlockFault.{BlockFault}
use Rattle.sblock.specs.declared.block.BlockFault.TheVariants as faults
use Rattle.sblock.specs.declared.block.Bounds.{Bounds}
use Rattle.sblock.specs.declared.block.Header.{Header}
use Rattle.sblock.specs.declared.block.Want.{Want}
use Rattle.sblock.specs.declared.kind.Kind.{Kind}

abbrev pub numrecs : List ℕ → ℕ
numrecs bytes = field 2 bytes 6

abbrev pub header_of : List ℕ → Header
header_of bytes = record { level = field 2 bytes 4; numrecs = numrecs bytes; left = field 4 bytes 8; right = field 4 bytes 12; lsn = field 8 bytes 24 }

-- a tree has at most nine levels
unfoldable pub level_fits : ℕ → ℕ → Bool
level_fits wanted level = nat_le wanted 8 && level == wanted

abbrev pub most_of : Kind → Bool → ℕ
most_of kind leaf = if leaf then leaf_most_of kind else node_most_of kind

-- a root leaf may be empty, a root node has a pointer
abbrev pub least_of : Kind → Bool → Bool → ℕ
least_of kind leaf root =
    if root then (if leaf then 0 else 1) else (if leaf then leaf_least_of kind else node_least_of kind)

unfoldable pub count_fits : Kind → Bool → Bool → ℕ → Bool
count_fits kind leaf root n = nat_le (least_of kind leaf root) n && nat_le n (most_of kind leaf)

-- a pointer leads into the group, behind its block 0
unfoldable pub is_child_inside : Kind → Bounds → List ℕ → ℕ → Bool
is_child_inside kind bounds area i = nat_le 1 (child_of kind area i) && nat_lt (child_of kind area i) bounds.length

module _ {R K : Type 0} (form : Form R K) where
  -- the key of a leaf's record, or of a node's entry
  unfoldable pub key_in : Bool → List ℕ → ℕ → K
  key_in leaf area i = if leaf then form.key_of (form.record_at area i) else form.key_at area i

  -- it comes before the next one
  unfoldable pub rises_at : Bool → List ℕ → ℕ → Bool
  rises_at leaf area i = form.is_before (key_in leaf area i) (key_in leaf area (i + 1))

  unfoldable pub is_rising : Bool → List ℕ → ℕ → Bool
  is_rising leaf area n = all_below (n - 1) (rises_at leaf area)

  -- a record's range is known only where its form is supported
  unfoldable pub is_record_inside : Bounds → List ℕ → ℕ → Bool
  is_record_inside bounds area i =
      not (form.is_supported (form.record_at area i)) || form.is_in_range bounds (form.record_at area i)

  unfoldable pub is_inside : Bool → Bounds → List ℕ → ℕ → Bool
  is_inside leaf bounds area i =
      if leaf then is_record_inside bounds area i else is_child_inside form.kind bounds area i

  unfoldable pub are_inside : Bool → Bounds → List ℕ → ℕ → Bool
  are_inside leaf bounds area n = all_below n (is_inside leaf bounds area)

  unfoldable pub is_supported_at : List ℕ → ℕ → Bool
  is_supported_at area i = form.is_supported (form.record_at area i)

  unfoldable pub are_supported : Bool → List ℕ → ℕ → Bool
  are_supported leaf area n = not leaf || all_below n (is_supported_at area)

  -- the tests of a block by itself, in their order
  abbrev pub block_tests : List ℕ → Want → List (Bool × BlockFault)
  block_tests bytes want =
      (field 4 bytes 0 == magic_of want.kind, faults.Magic)
      ∷ (level_fits want.level (field 2 bytes 4), faults.Level)
      ∷ (count_fits want.kind (want.level == 0) want.root (numrecs bytes), faults.Count)
      ∷ (field 4 bytes 8 == want.left, faults.Sibling)
      ∷ (field 8 bytes 16 == want.place, faults.Place)
      ∷ (field 4 bytes 48 == want.group, faults.Owner)
      ∷ (has_uuid bytes 32 want.uuid, faults.Uuid)
      ∷ (has_sum bytes 52, faults.Checksum)
      ∷ (is_rising (want.level == 0) (area_of bytes) (numrecs bytes), faults.Order)
      ∷ (are_inside (want.level == 0) want.bounds (area_of bytes) (numrecs bytes), faults.Range)
      ∷ (are_supported (want.level == 0) (area_of bytes) (numrecs bytes), faults.Later)
      ∷ []

  unfoldable pub block_fault : List ℕ → Want → Option BlockFault
  block_fault bytes want = first_failing (block_tests bytes want)

  -- the records of a leaf
  unfoldable pub records_of : List ℕ → List R
  records_of bytes = items_from (form.record_at (area_of bytes)) (numrecs bytes) 0

  -- the low keys of a node
  unfoldable pub keys_of : List ℕ → List K
  keys_of bytes = items_from (form.key_at (area_of bytes)) (numrecs bytes) 0

  -- the blocks of a node's entries
  unfoldable pub children_of : List ℕ → List ℕ
  children_of bytes = items_from (child_of form.kind (area_of bytes)) (numrecs bytes) 0

  abbrev pub AreKeysRising : List K → Type 0
  AreKeysRising keys = Rises form.is_before keys

  -- each record's key comes before the next one's
  abbrev pub IsRising : List R → Type 0
  IsRising recs = Rises (λ r s. form.is_before (form.key_of r) (form.key_of s)) recs

  -- each record's numbers are in range
  abbrev pub AllInside : Bounds → List R → Type 0
  AllInside bounds recs = Each (form.is_in_range bounds) recs

  abbrev pub AllSupported : List R → Type 0
  AllSupported recs = Each form.is_supported recs

-- each lies in a group of this length, behind its block 0
abbrev pub AreBlocks : ℕ → List ℕ → Type 0
AreBlocks len blocks = Each (λ b. nat_le 1 b && nat_lt b len) blocks
