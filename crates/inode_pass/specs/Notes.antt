-- What the cores of a group show of their inodes' forks, as it is put down when they are read.
use Rattle.std.specs.Prelude.{◌≡◌, ℕ, ◌+◌, ◌*◌, ◌<◌, ◌==◌, Bool, true, not, ◌&&◌, if◌then◌else◌, All, List, [], ◌∷◌, ◌++◌, map, flat_map, Option, Some, None}
use Rattle.std.specs.Option.{is_some}
use Rattle.dinode_core.specs.Core.{core_fault, core_of}
use Rattle.dinode_core.specs.ForkTree.{is_tree}
use Rattle.dinode_core.specs.Inline.{in_range, inline_fault, inline_mappings}
use Rattle.dinode_core.specs.declared.inode.Core3.{Core3}
use Rattle.dinode_core.specs.declared.inode.CoreFault.{CoreFault}
use Rattle.dinode_core.specs.declared.mapping.Fork.{Fork}
use Rattle.dinode_core.specs.declared.mapping.Fork.TheVariants.{Data, Attr}
use Rattle.fs_state.specs.Lists.{numbers}
use Rattle.fs_state.specs.Inodes.{slot_in}
use Rattle.fs_state.specs.Kinds.{Image}
use Rattle.geom.specs.Layout.{Layout, device_block_of, group_len_of, inode_at}
use Rattle.geom.specs.declared.geometry.InodePlace.{InodePlace}
use Rattle.index_derive.specs.Inodes.{mask_in}
use Rattle.inode_pass.specs.Units.{opened_state}
use Rattle.inode_pass.specs.declared.note.ForkNote.{ForkNote}
use Rattle.inode_pass.specs.declared.note.ForkNote.TheVariants.{Mapping, Block}

-- the inode shows the whole of the fork: it isn't in btree format, and has no fault
unfoldable pub shows : Layout → Core3 → Fork → Bool
shows at core f = not (is_tree core f) && not (is_some (inline_fault at core f))

-- the mappings of a fork that the inode shows
abbrev pub fork_notes : Core3 → Fork → List ForkNote
fork_notes core f = map (λ m. Mapping core.ino f m) (inline_mappings core f)

-- those of both forks, where the inode shows both
unfoldable pub core_notes : Layout → Core3 → Option (List ForkNote)
core_notes at core =
    if shows at core Data && shows at core Attr then Some (fork_notes core Data ++ fork_notes core Attr) else None

-- a core that doesn't verify shows nothing, and a free inode has no forks
abbrev pub notes_by : Layout → Option CoreFault → Core3 → Option (List ForkNote)
notes_by at (Some fault) core = None
notes_by at None core = if core.mode == 0 then Some [] else core_notes at core

-- those of the inode with this number and these bytes
unfoldable pub slot_notes : Layout → ℕ → List ℕ → Option (List ForkNote)
slot_notes at ino bytes = notes_by at (core_fault bytes ino at.uuid) (core_of bytes)

-- those of an inode in a group's block with these bytes
unfoldable pub notes_at : Layout → List ℕ → InodePlace → Option (List ForkNote)
notes_at at bytes p = slot_notes at (inode_at at p.group p.block p.slot) (slot_in bytes p.slot)

abbrev pub both_notes : Option (List ForkNote) → Option (List ForkNote) → Option (List ForkNote)
both_notes (Some notes) (Some more) = Some (notes ++ more)
both_notes _ _ = None

-- one after the other, where each shows its own
abbrev pub joined_notes : List (Option (List ForkNote)) → Option (List ForkNote)
joined_notes [] = Some []
joined_notes (o ∷ os) = both_notes o (joined_notes os)

-- the block itself where one of its inodes doesn't show its forks
abbrev pub notes_or_block : ℕ → Option (List ForkNote) → List ForkNote
notes_or_block b (Some notes) = notes
notes_or_block b None = Block b ∷ []

-- those of the eight inodes of a group's block with these bytes, or the block
unfoldable pub block_notes : Layout → List ℕ → ℕ → ℕ → List ForkNote
block_notes at bytes g b =
    notes_or_block b (joined_notes (map (λ s. slot_notes at (inode_at at g b s) (slot_in bytes s)) (numbers 0 8)))

-- those of n blocks of a group from block b on
unfoldable pub blocks_notes : Layout → Image → ℕ → ℕ → ℕ → List ForkNote
blocks_notes at image g b n = flat_map (λ j. block_notes at (image (device_block_of at g (b + j))) g (b + j)) (numbers 0 n)

abbrev pub notes_if : Option ℕ → List ForkNote → List ForkNote
notes_if (Some mask) notes = notes
notes_if None notes = []

-- those of a unit's eight blocks, where all 64 cores verify
unfoldable pub unit_notes : Layout → Image → ℕ → ℕ → List ForkNote
unit_notes at image g u = notes_if (mask_in (opened_state at image) g u) (blocks_notes at image g (8 * u) 8)

-- those of a group's units, one after the other
abbrev pub notes_of : Layout → Image → ℕ → List ℕ → List ForkNote
notes_of at image g units = flat_map (unit_notes at image g) units

-- what holds of a note whatever the device tells: a mapping passes its own test, and the group has the block
abbrev pub IsFit : Layout → ℕ → ForkNote → Type 0
IsFit at g (Mapping ino fork mapping) = in_range at fork mapping ≡ true
IsFit at g (Block b) = b < group_len_of at g

abbrev pub AreFit : Layout → ℕ → List ForkNote → Type 0
AreFit at g notes = All (IsFit at g) notes
