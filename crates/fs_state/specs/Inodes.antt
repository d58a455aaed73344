-- Cores and forks in an image ("On-disk Inode", "Data Fork", "Attribute Fork").
use Rattle.std.specs.Prelude.{ℕ, ◌*◌, ◌/◌, ◌%◌, ◌==◌, if◌then◌else◌, List, [], take, drop, Option, None, Some, Result, Ok}
use Rattle.geom.specs.Layout.{Layout, device_block_of}
use Rattle.dinode_core.specs.Core.{core_of, core_fault}
use Rattle.dinode_core.specs.ForkTree.{Image}
use Rattle.dinode_core.specs.Frame.{fork_in}
use Rattle.dinode_core.specs.declared.inode.Core3.{Core3}
use Rattle.dinode_core.specs.declared.inode.CoreFault.{CoreFault}
use Rattle.dinode_core.specs.declared.mapping.Fork.{Fork}
use Rattle.dinode_core.specs.declared.mapping.ForkFault.{ForkFault}
use Rattle.fs_state.specs.State.{CoreState, Broken, Whole, ForkList}

-- the bytes of one of the eight inodes of a block
abbrev pub slot_in : List ℕ → ℕ → List ℕ
slot_in block s = take 512 (drop (512 * s) block)

-- the bytes of the inode of this number, where it has a place
abbrev pub bytes_at : Layout → Image → ℕ → Option (ℕ × ℕ) → Option (List ℕ)
bytes_at at image ino None = None
bytes_at at image ino (Some p) = Some (slot_in (image (device_block_of at p.0 p.1)) (ino % 8))

abbrev pub whole_or : Option CoreFault → Core3 → CoreState
whole_or None core = Whole (record { mode = core.mode; uid = core.uid; reflink = core.flags2 / 2 % 2 == 1 })
whole_or (Some fault) core = Broken fault

-- what do the bytes of an inode say? Its core, or why that doesn't verify
unfoldable pub core_in : Layout → ℕ → List ℕ → CoreState
core_in at ino bytes = whole_or (core_fault bytes ino at.uuid) (core_of bytes)

abbrev pub no_fork : ForkList
no_fork = record { mappings = []; blocks = [] }

-- a fork is spoken of where the core verifies and its mode isn't 0
abbrev pub fork_by : Layout → Image → ℕ → Fork → Option CoreState → Option (List ℕ) → Result ForkList ForkFault
fork_by at image ino f (Some (Whole inode)) (Some bytes) = if inode.mode == 0 then Ok no_fork else fork_in at image (core_of bytes) f
fork_by at image ino f _ _ = Ok no_fork
