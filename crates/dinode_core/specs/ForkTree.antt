-- A fork as a whole: its mappings and the blocks of its btree, or the first fault.
use Rattle.std.specs.Prelude.{ℕ, zero, suc, ◌+◌, ◌-◌, ◌*◌, ◌^◌, ◌==◌, nat_le, nat_lt, Bool, true, false, ◌&&◌, if◌then◌else◌, List, [], ◌∷◌, ◌++◌, length, drop, Option, Some, None, Result, Ok, Err}
use Rattle.byte_fields.specs.Checksum.{has_sum}
use Rattle.byte_fields.specs.Fields.{field, has_uuid}
use Rattle.geom.specs.Layout.{Layout, device_block_of, blkno_of, split_of}
use Rattle.dinode_core.specs.declared.inode.Core3.{Core3}
use Rattle.dinode_core.specs.declared.mapping.Mapping.{Mapping}
use Rattle.dinode_core.specs.declared.mapping.Fork.{Fork}
use Rattle.dinode_core.specs.declared.mapping.ForkFault.{ForkFault}
use Rattle.dinode_core.specs.declared.mapping.ForkFault.TheVariants as faults
use Rattle.dinode_core.specs.declared.shape.Format.{Format}
use Rattle.dinode_core.specs.declared.shape.Format.TheVariants.{Btree}
use Rattle.dinode_core.specs.Packed.{unpacked}
use Rattle.dinode_core.specs.Shape.{size_of, area_of, is_absent, count_of, format_of}
use Rattle.dinode_core.specs.Inline.{root_level, root_keys, key_room, form_fault, inline_mappings, mappings_in, first_bad, or_else}

-- the bytes of each block of the device
abbrev pub Image : Type 0
Image = ℕ → List ℕ

-- a block of a fork's btree: its file system block number, and how many mappings come before those below it
pub record TreeBlock : Type 0 where
  pub block : ℕ
  pub before : ℕ

-- the last block that was read on a level, and the right sibling that it names
pub record Last : Type 0 where
  pub block : ℕ
  pub right : ℕ

-- what was met so far, from left to right, and on each level the last block
pub record Trail : Type 0 where
  pub mappings : List Mapping
  pub blocks : List TreeBlock
  pub last : ℕ → Option Last

-- a key, which is the lowest offset below it, and the pointer beside it
pub record Entry : Type 0 where
  pub key : ℕ
  pub block : ℕ

-- no sibling
abbrev pub nobody : ℕ
nobody = 2 ^ 64 - 1

-- n keys from one offset on, n pointers from another
unfoldable pub entries : ℕ → ℕ → ℕ → List ℕ → List Entry
entries zero keys pointers bytes = []
entries (suc n) keys pointers bytes =
    record { key = field 8 bytes keys; block = field 8 bytes pointers } ∷ entries n (keys + 8) (pointers + 8) bytes

abbrev pub numrecs : List ℕ → ℕ
numrecs bytes = field 2 bytes 6

-- bb_magic "BMA3"
abbrev pub is_fork_block : List ℕ → Bool
is_fork_block bytes = field 4 bytes 0 == 0x424d_4133

-- a node's keys begin at 72, and its pointers behind the room of 251 keys
abbrev pub node_entries : List ℕ → List Entry
node_entries bytes = entries (numrecs bytes) 72 (72 + 8 * 251) bytes

-- a leaf's mappings begin at 72
abbrev pub leaf_mappings : List ℕ → List Mapping
leaf_mappings bytes = mappings_in (numrecs bytes) (drop 72 bytes)

-- the lowest offset of a block: that of its first mapping, or its first key
abbrev pub first_key : ℕ → List ℕ → ℕ
first_key zero bytes = (unpacked (drop 72 bytes)).offset
first_key (suc level) bytes = field 8 bytes 72

abbrev pub left_of : Option Last → ℕ
left_of None = nobody
left_of (Some last) = last.block

abbrev pub names : Option Last → ℕ → Bool
names None block = true
names (Some last) block = last.right == block

-- a long-form block's own tests: bb_magic "BMA3", bb_level, bb_numrecs, bb_blkno, bb_owner, bb_uuid, bb_crc, and the key
-- beside its pointer; block 0 of a group has its heads, and no such block
unfoldable pub is_right : Layout → Core3 → ℕ → Entry → ℕ × ℕ → List ℕ → Bool
is_right at core level entry place bytes =
    is_fork_block bytes && nat_lt 0 place.1 && (field 2 bytes 4 == level) && nat_le 1 (numrecs bytes) && nat_le (numrecs bytes) 251
    && (field 8 bytes 24 == blkno_of at place.0 place.1) && (field 8 bytes 56 == core.ino) && has_uuid bytes 40 at.uuid
    && has_sum bytes 64 && (first_key level bytes == entry.key)

-- its siblings: bb_leftsib is the block before it on its level, and that block's bb_rightsib is this one
unfoldable pub is_beside : Option Last → Entry → List ℕ → Bool
is_beside last entry bytes = (field 8 bytes 8 == left_of last) && names last entry.block

-- a long-form block passes its tests
abbrev pub is_sound : Layout → Core3 → ℕ → Option Last → Entry → ℕ × ℕ → List ℕ → Bool
is_sound at core level last entry place bytes = is_right at core level entry place bytes && is_beside last entry bytes

-- the block that an entry points to, where it is sound
abbrev pub sound_at : Layout → Image → Core3 → ℕ → Option Last → Entry → Option (ℕ × ℕ) → Option (List ℕ)
sound_at at image core level last entry None = None
sound_at at image core level last entry (Some place) =
    let bytes = image (device_block_of at place.0 place.1) in
    if is_sound at core level last entry place bytes then Some bytes else None

unfoldable pub block_at : Layout → Image → Core3 → ℕ → Trail → Entry → Option (List ℕ)
block_at at image core level trail entry = sound_at at image core level (trail.last level) entry (split_of at entry.block)

-- the trail after a block of this level, before what lies below it
abbrev pub passed : ℕ → Entry → List ℕ → Trail → Trail
passed level entry bytes trail = record {
  mappings = trail.mappings;
  blocks = trail.blocks ++ record { block = entry.block; before = length trail.mappings } ∷ [];
  last = λ l. if l == level then Some (record { block = entry.block; right = field 8 bytes 16 }) else trail.last l;
}

abbrev pub with_mappings : List Mapping → Trail → Trail
with_mappings ms trail = record { mappings = trail.mappings ++ ms; blocks = trail.blocks; last = trail.last }

-- A walk is Ok with what was met, or Err with what was met before the first bad block.
infixl 10 ◌>>=◌
abbrev pub ◌>>=◌ : Result Trail Trail → (Trail → Result Trail Trail) → Result Trail Trail
(Ok trail) >>= next = next trail
(Err trail) >>= next = Err trail

-- the blocks of these entries, one after the other
unfoldable pub walk_each : (Trail → Entry → Result Trail Trail) → List Entry → Trail → Result Trail Trail
walk_each walk [] trail = Ok trail
walk_each walk (e ∷ es) trail = walk trail e >>= walk_each walk es

abbrev pub walk_in : Option (List ℕ) → Trail → (List ℕ → Result Trail Trail) → Result Trail Trail
walk_in None trail below = Err trail
walk_in (Some bytes) trail below = below bytes

-- a block, and what lies below it
unfoldable pub walk_block : Layout → Image → Core3 → ℕ → Trail → Entry → Result Trail Trail
walk_block at image core zero trail entry =
    walk_in (block_at at image core zero trail entry) trail (λ bytes. Ok (with_mappings (leaf_mappings bytes) (passed zero entry bytes trail)))
walk_block at image core (suc level) trail entry =
    walk_in (block_at at image core (suc level) trail entry) trail (λ bytes.
    walk_each (walk_block at image core level) (node_entries bytes) (passed (suc level) entry bytes trail))

-- the root's entries, in the fork's bytes
abbrev pub root_entries : Core3 → Fork → List Entry
root_entries core fork =
    let area = area_of core fork in
    entries (root_keys area) 4 (4 + 8 * key_room (size_of core fork)) area

abbrev pub start : Trail
start = record { mappings = []; blocks = []; last = λ level. None }

-- all blocks of the tree; the root is no block
unfoldable pub walk_tree : Layout → Image → Core3 → Fork → Result Trail Trail
walk_tree at image core fork =
    walk_each (walk_block at image core (root_level (area_of core fork) - 1)) (root_entries core fork) start

abbrev pub ends_at : Option Last → Bool
ends_at None = true
ends_at (Some last) = last.right == nobody

-- on each of the lower n levels the last block has no right sibling
abbrev pub ends : ℕ → Trail → Bool
ends zero trail = true
ends (suc n) trail = ends n trail && ends_at (trail.last n)

-- what is met of a fork, and whether no bad block is met
pub record Met : Type 0 where
  pub mappings : List Mapping
  pub blocks : List TreeBlock
  pub whole : Bool

abbrev pub met_in : ℕ → Result Trail Trail → Met
met_in levels (Ok trail) = record { mappings = trail.mappings; blocks = trail.blocks; whole = ends levels trail }
met_in levels (Err trail) = record { mappings = trail.mappings; blocks = trail.blocks; whole = false }

abbrev pub has_tree : Option Format → Bool
has_tree (Some Btree) = true
has_tree _ = false

-- the fork is there, and in btree format
unfoldable pub is_tree : Core3 → Fork → Bool
is_tree core fork = if is_absent core fork then false else has_tree (format_of core fork)

unfoldable pub met_of : Layout → Image → Core3 → Fork → Met
met_of at image core fork =
    if is_tree core fork then met_in (root_level (area_of core fork)) (walk_tree at image core fork)
    else record { mappings = inline_mappings core fork; blocks = []; whole = true }

abbrev pub block_fault : Bool → Option ForkFault
block_fault whole = if whole then None else Some faults.Block

-- the first fault of a fork but for the number of its mappings: a mapping that is met comes before the bad block
unfoldable pub walk_fault : Layout → Image → Core3 → Fork → Option ForkFault
walk_fault at image core fork =
    let met = met_of at image core fork in
    or_else (form_fault core fork) (or_else (first_bad at fork met.mappings) (block_fault met.whole))

-- a btree has as many mappings as the core says
abbrev pub has_number : Layout → Image → Core3 → Fork → Bool
has_number at image core fork =
    if is_tree core fork then length (met_of at image core fork).mappings == count_of core fork else true

-- the first fault of a fork; a fork without one has the mappings and blocks that are met of it
unfoldable pub fork_fault : Layout → Image → Core3 → Fork → Option ForkFault
fork_fault at image core fork =
    or_else (walk_fault at image core fork) (if has_number at image core fork then None else Some faults.Count)
