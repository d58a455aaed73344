-- The 4,040 bytes of a block behind its header, and the pointers of a node there.
use Rattle.std.specs.Prelude.{ℕ, ◌+◌, ◌*◌, List, drop}
use Rattle.byte_fields.specs.Fields.{field, with_field}
use Rattle.sblock.specs.Kinds.{key_width_of, node_most_of}
use Rattle.sblock.specs.declared.kind.Kind.{Kind}

-- what stands behind the header
abbrev pub area_of : List ℕ → List ℕ
area_of bytes = drop 56 bytes

-- pointer i stands behind the room of the greatest number of keys
abbrev pub pointer_place : Kind → ℕ → ℕ
pointer_place kind i = node_most_of kind * key_width_of kind + 4 * i

-- the block of entry i of a node
unfoldable pub child_of : Kind → List ℕ → ℕ → ℕ
child_of kind area i = field 4 area (pointer_place kind i)

-- the area with this block as that of entry i
unfoldable pub with_child : Kind → List ℕ → ℕ → ℕ → List ℕ
with_child kind area i child = with_field 4 area (pointer_place kind i) child
