-- What an inode itself shows of a fork: the fork's form, and the mappings that it holds.
use Rattle.std.specs.Prelude.{◌≡◌, ⊤, ℕ, zero, suc, ◌+◌, ◌-◌, ◌/◌, ◌^◌, nat_lt, nat_le, Bool, true, false, not, ◌&&◌, if◌then◌else◌, List, [], ◌∷◌, drop, Option, Some, None}
use Rattle.byte_fields.specs.Fields.{field}
use Rattle.byte_fields.specs.FirstFailing.{first_failing}
use Rattle.geom.specs.Layout.{Layout, group_len_of, split_of}
use Rattle.dinode_core.specs.declared.inode.Core3.{Core3}
use Rattle.dinode_core.specs.declared.mapping.Mapping.{Mapping}
use Rattle.dinode_core.specs.declared.mapping.Fork.{Fork}
use Rattle.dinode_core.specs.declared.mapping.Fork.TheVariants.{Data, Attr}
use Rattle.dinode_core.specs.declared.mapping.ForkFault.{ForkFault}
use Rattle.dinode_core.specs.declared.mapping.ForkFault.TheVariants as faults
use Rattle.dinode_core.specs.declared.mapping.ForkError.{ForkError}
use Rattle.dinode_core.specs.declared.mapping.ForkError.TheVariants.{Fault, Memory}
use Rattle.dinode_core.specs.declared.shape.Format.{Format}
use Rattle.dinode_core.specs.declared.shape.Format.TheVariants.{Dev, Local, Extents, Btree}
use Rattle.dinode_core.specs.Packed.{unpacked}
use Rattle.dinode_core.specs.Shape.{size_of, area_of, room_of, is_absent, count_of, format_of}

-- the root of a btree in a fork's bytes: bb_level, bb_numrecs, then keys and pointers of 8 bytes
abbrev pub root_level : List ℕ → ℕ
root_level area = field 2 area 0

abbrev pub root_keys : List ℕ → ℕ
root_keys area = field 2 area 2

-- how many keys a root has room for in a fork of this size
abbrev pub key_room : ℕ → ℕ
key_room size = (size - 4) / 16

-- a root has 1 to 9 levels below it
unfoldable pub has_root_level : List ℕ → Bool
has_root_level area = nat_le 1 (root_level area) && nat_le (root_level area) 9

-- the format is one, and a root's level is one
abbrev pub has_form : Option Format → List ℕ → Bool
has_form None area = false
has_form (Some Dev) area = true
has_form (Some Local) area = true
has_form (Some Extents) area = true
has_form (Some Btree) area = has_root_level area

unfoldable pub mappings_fit : Core3 → Fork → Bool
mappings_fit core fork = nat_le (count_of core fork) (room_of core fork)

unfoldable pub keys_fit : Core3 → Fork → Bool
keys_fit core fork = nat_le (root_keys (area_of core fork)) (key_room (size_of core fork))

-- the mappings, or a root's keys, fit the fork
abbrev pub has_room : Option Format → Core3 → Fork → Bool
has_room None core fork = true
has_room (Some Dev) core fork = true
has_room (Some Local) core fork = true
has_room (Some Extents) core fork = mappings_fit core fork
has_room (Some Btree) core fork = keys_fit core fork

abbrev pub form_tests : Core3 → Fork → List (Bool × ForkFault)
form_tests core fork =
    (nat_lt core.forkoff 42 && has_form (format_of core fork) (area_of core fork), faults.Format)
    ∷ (has_room (format_of core fork) core fork, faults.Count)
    ∷ []

-- the fault of the fork's form; a fork that isn't there has none
unfoldable pub form_fault : Core3 → Fork → Option ForkFault
form_fault core fork = if is_absent core fork then None else first_failing (form_tests core fork)

-- n packed mappings, one behind the other
unfoldable pub mappings_in : ℕ → List ℕ → List Mapping
mappings_in zero bytes = []
mappings_in (suc n) bytes = unpacked bytes ∷ mappings_in n (drop 16 bytes)

abbrev pub is_extents : Option Format → Bool
is_extents (Some Extents) = true
is_extents _ = false

-- the mappings that stand in the inode: those of a fork in extents format
unfoldable pub inline_mappings : Core3 → Fork → List Mapping
inline_mappings core fork =
    if is_absent core fork then []
    else (if is_extents (format_of core fork) then mappings_in (count_of core fork) (area_of core fork) else [])

-- the next mapping begins at a higher offset
unfoldable pub rises : Mapping → List Mapping → Bool
rises m [] = true
rises m (next ∷ ms) = nat_lt m.offset next.offset

-- the mapping ends where the next one begins, or before
unfoldable pub clears : Mapping → List Mapping → Bool
clears m [] = true
clears m (next ∷ ms) = nat_le (m.offset + m.count) next.offset

abbrev pub ends_in_group : Layout → Option (ℕ × ℕ) → ℕ → Bool
ends_in_group at None count = false
ends_in_group at (Some place) count = nat_le (place.1 + count) (group_len_of at place.0)

abbrev pub is_attr : Fork → Bool
is_attr Data = false
is_attr Attr = true

-- there is a block, all blocks lie in one group, the end is at most 2^54, and attributes are never unwritten
unfoldable pub in_range : Layout → Fork → Mapping → Bool
in_range at fork m =
    nat_le 1 m.count && ends_in_group at (split_of at m.block) m.count && nat_le (m.offset + m.count) (2 ^ 54)
    && not (m.unwritten && is_attr fork)

-- the tests of a mapping, in their order, where these mappings follow it
abbrev pub mapping_tests : Layout → Fork → Mapping → List Mapping → List (Bool × ForkFault)
mapping_tests at fork m ms = (rises m ms, faults.Order) ∷ (clears m ms, faults.Overlap) ∷ (in_range at fork m, faults.Range) ∷ []

unfoldable pub mapping_fault : Layout → Fork → Mapping → List Mapping → Option ForkFault
mapping_fault at fork m ms = first_failing (mapping_tests at fork m ms)

-- the one fault, or where there is none the other
abbrev pub or_else : Option ForkFault → Option ForkFault → Option ForkFault
or_else (Some fault) other = Some fault
or_else None other = other

-- the fault of the first bad mapping
unfoldable pub first_bad : Layout → Fork → List Mapping → Option ForkFault
first_bad at fork [] = None
first_bad at fork (m ∷ ms) = or_else (mapping_fault at fork m ms) (first_bad at fork ms)

-- the fault that the inode itself shows of its fork
unfoldable pub inline_fault : Layout → Core3 → Fork → Option ForkFault
inline_fault at core fork = or_else (form_fault core fork) (first_bad at fork (inline_mappings core fork))

-- why no mappings are answered: this fault, or want of memory
abbrev pub Refuses : ForkError → Option ForkFault → Type 0
Refuses (Fault fault) found = found ≡ Some fault
Refuses Memory found = ⊤
