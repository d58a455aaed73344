-- The bytes of a new block, and those of a tree of one leaf.
use Rattle.std.specs.Prelude.{ℕ, ◌+◌, ◌*◌, List, [], ◌∷◌, length, replicate}
use Rattle.byte_fields.specs.Zeros.{zeros}
use Rattle.sblock.specs.Form.{Form}
use Rattle.sblock.specs.Headers.{no_block}
use Rattle.sblock.specs.declared.block.Frame.{Frame}
use Rattle.sblock.specs.declared.block.Header.{Header}
use Rattle.sblock.specs.declared.kind.Kind.{Kind}
use Rattle.bulk_load.specs.Header.{with_numbers, numbers_of, with_seal, with_area}

-- Not an abbrev, so that no goal computes its 4,040 items.
unfoldable pub empty_area : List ℕ
empty_area = replicate 4040 0

-- a block of zeros with this area behind a header of these numbers, for block p of its group
unfoldable pub block_bytes : Kind → Header → Frame → ℕ → List ℕ → List ℕ
block_bytes kind header frame p area =
    with_seal (with_numbers (with_area zeros area) (numbers_of kind header (8 * (frame.first + p)))) frame.uuid frame.group

-- the area with these records, the first of them as number i
abbrev pub with_records : {R K : Type 0} → Form R K → List R → ℕ → List ℕ → List ℕ
with_records form [] i area = area
with_records form (r ∷ rs) i area = with_records form rs (i + 1) (form.with_record area i r)

-- the header of a block that is a whole tree of so many records
abbrev pub root_header : ℕ → ℕ → Header
root_header n lsn = record { level = 0; numrecs = n; left = no_block; right = no_block; lsn = lsn }

-- a tree of these records in block p of the group, all of it in one leaf
abbrev pub leaf_bytes : {R K : Type 0} → Form R K → List R → Frame → ℕ → List ℕ
leaf_bytes form list frame p =
    block_bytes form.kind (root_header (length list) frame.lsn) frame p (with_records form list 0 empty_area)
