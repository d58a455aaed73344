-- What the cores of a group's blocks say, one after the other.
use Rattle.std.specs.Prelude.{ℕ, ◌+◌, ◌*◌, ◌/◌, List, [], ◌∷◌, map, flat_map, Option, Some, None, Result, Ok, Err}
use Rattle.dinode_core.specs.declared.inode.CoreFault.{CoreFault}
use Rattle.fs_state.specs.Lists.{numbers}
use Rattle.fs_model.specs.declared.claim.Evidence.{Evidence}
use Rattle.fs_model.specs.declared.claim.Evidence.TheVariants.{BadChunk}
use Rattle.fs_state.specs.Inodes.{core_in, slot_in}
use Rattle.fs_state.specs.Kinds.{Image}
use Rattle.fs_state.specs.State.{CoreState, Broken, Whole}
use Rattle.geom.specs.Layout.{Layout, device_block_of, inode_at}
use Rattle.geom.specs.declared.geometry.InodePlace.{InodePlace}

-- the mode of a core that verifies, or why it doesn't
abbrev pub look_in : CoreState → Result ℕ CoreFault
look_in (Broken fault) = Err fault
look_in (Whole inode) = Ok inode.mode

-- the same of the core of an inode in a group's block with these bytes
unfoldable pub look_of : Layout → List ℕ → InodePlace → Result ℕ CoreFault
look_of at bytes p = look_in (core_in at (inode_at at p.group p.block p.slot) (slot_in bytes p.slot))

-- the eight cores of a group's block with these bytes
unfoldable pub block_looks : Layout → List ℕ → ℕ → ℕ → List (Result ℕ CoreFault)
block_looks at bytes g b = map (λ s. look_in (core_in at (inode_at at g b s) (slot_in bytes s))) (numbers 0 8)

-- those of n blocks of a group from block b on
unfoldable pub blocks_looks : Layout → Image → ℕ → ℕ → ℕ → List (Result ℕ CoreFault)
blocks_looks at image g b n = flat_map (λ j. block_looks at (image (device_block_of at g (b + j))) g (b + j)) (numbers 0 n)

abbrev pub mode_seen : Result ℕ CoreFault → Option ℕ
mode_seen (Ok mode) = Some mode
mode_seen (Err fault) = None

-- the first of the cores from number i of a unit on that doesn't verify, as evidence
abbrev pub broken_from : ℕ → ℕ → List (Result ℕ CoreFault) → Option Evidence
broken_from u i [] = None
broken_from u i (Ok mode ∷ looks) = broken_from u (i + 1) looks
broken_from u i (Err fault ∷ looks) = Some (BadChunk (8 * u + i / 8) fault)
