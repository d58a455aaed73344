-- How many blocks does the pass over all forks read at most?
use Rattle.std.specs.Prelude.{ℕ, ◌+◌, ◌*◌, ◌/◌, ◌==◌, if◌then◌else◌, List, length, sum_by, Option, Some, None}
use Rattle.dinode_core.specs.Core.{core_of}
use Rattle.dinode_core.specs.ForkTree.{Image, met_of, walk_fault}
use Rattle.dinode_core.specs.Inline.{root_level}
use Rattle.dinode_core.specs.Shape.{area_of}
use Rattle.dinode_core.specs.declared.inode.Core3.{Core3}
use Rattle.dinode_core.specs.declared.mapping.Fork.{Fork}
use Rattle.dinode_core.specs.declared.mapping.Fork.TheVariants as forks
use Rattle.dinode_core.specs.declared.mapping.ForkFault.{ForkFault}
use Rattle.fork_read.specs.First.{most_met}
use Rattle.fs_state.specs.Lists.{numbers}
use Rattle.fs_state.specs.Inodes.{slot_in}
use Rattle.geom.specs.Layout.{Layout, device_block_of}
use Rattle.inode_pass.specs.declared.note.ForkNote.{ForkNote}
use Rattle.inode_pass.specs.declared.note.ForkNote.TheVariants.{Mapping, Block}

-- How often is a fork read on at most, where a piece ended? Each such piece has two blocks of its own.
abbrev pub turns_most : Layout → Image → Core3 → Fork → ℕ
turns_most at image core fork = length (met_of at image core fork).blocks / 2

-- What do its pieces read at most? Each block that is met of its btree, a bad one, and each time that it is read on the
-- way down again, a block on each level.
abbrev pub pieces_most : Layout → Image → Core3 → Fork → ℕ
pieces_most at image core fork = most_met at image core fork + root_level (area_of core fork) * turns_most at image core fork

-- a fork with a fault is walked once more, to its first one
abbrev pub again_most : Option ForkFault → ℕ → ℕ
again_most None most = 0
again_most (Some fault) most = most

-- What is read of a fork at most?
unfoldable pub fork_most : Layout → Image → Core3 → Fork → ℕ
fork_most at image core fork = pieces_most at image core fork + again_most (walk_fault at image core fork) (most_met at image core fork)

-- Of an inode with this core? Both forks.
abbrev pub inode_most : Layout → Image → Core3 → ℕ
inode_most at image core = fork_most at image core forks.Data + fork_most at image core forks.Attr

-- Of one with these bytes? The same, where it isn't free.
unfoldable pub slot_most : Layout → Image → List ℕ → ℕ
slot_most at image bytes = if (core_of bytes).mode == 0 then 0 else inode_most at image (core_of bytes)

-- Of a block with eight inodes? Itself, and their forks.
unfoldable pub block_most : Layout → Image → ℕ → ℕ → ℕ
block_most at image g b = 1 + sum_by (λ s. slot_most at image (slot_in (image (device_block_of at g b)) s)) (numbers 0 8)

-- Of what a note of a group stands for? A mapping, nothing; a block of inodes, that block.
abbrev pub note_most : Layout → Image → ℕ → ForkNote → ℕ
note_most at image g (Mapping ino f m) = 0
note_most at image g (Block b) = block_most at image g b

abbrev pub notes_most : Layout → Image → ℕ → List ForkNote → ℕ
notes_most at image g notes = sum_by (note_most at image g) notes

-- Of the notes of all groups?
unfoldable pub forks_most : Layout → Image → (ℕ → List ForkNote) → ℕ
forks_most at image notes = sum_by (λ g. notes_most at image g (notes g)) (numbers 0 at.agcount)
