-- What a fork depends on: its own parts of the core, and the blocks of its btree.
use Rattle.std.specs.Prelude.{◌≡◌, ℕ, ◌⊎◌, false, List, [], ◌∷◌, Option, Some, None, Result, Ok, Err, is_ok}
use Rattle.geom.specs.Layout.{Layout, device_block_of, split_of}
use Rattle.dinode_core.specs.declared.inode.Core3.{Core3}
use Rattle.dinode_core.specs.declared.mapping.Mapping.{Mapping}
use Rattle.dinode_core.specs.declared.mapping.Fork.{Fork}
use Rattle.dinode_core.specs.declared.mapping.ForkFault.{ForkFault}
use Rattle.dinode_core.specs.ForkTree.{Image, TreeBlock, Met, met_of, fork_fault, is_fork_block}
use Rattle.dinode_core.specs.Shape.{area_of, size_of, count_of, is_absent, format_of}

-- a fork without a fault
pub record ForkList : Type 0 where
  pub mappings : List Mapping
  pub blocks : List TreeBlock

abbrev pub list_or : Option ForkFault → ForkList → Result ForkList ForkFault
list_or None list = Ok list
list_or (Some fault) list = Err fault

abbrev pub list_of : Met → ForkList
list_of met = record { mappings = met.mappings; blocks = met.blocks }

-- the fork's mappings and blocks, or its first fault
unfoldable pub fork_in : Layout → Image → Core3 → Fork → Result ForkList ForkFault
fork_in at image core fork = list_or (fork_fault at image core fork) (list_of (met_of at image core fork))

-- the device block of a group's block
abbrev pub device_at : Layout → Option (ℕ × ℕ) → Option ℕ
device_at at None = None
device_at at (Some place) = Some (device_block_of at place.0 place.1)

-- one of these blocks of a btree lies at this block of the device
abbrev pub Lies : Layout → List TreeBlock → ℕ → Type 0
Lies at [] d = ⊥
Lies at (b ∷ bs) d = (device_at at (split_of at b.block) ≡ Some d) ⊎ Lies at bs d

-- the blocks of a btree are the same in both images
abbrev pub Stay : Layout → List TreeBlock → Image → Image → Type 0
Stay at blocks m n = (d : ℕ) → Lies at blocks d → n d ≡ m d

-- each block is the same in both images, or has no fork's magic number in the second
abbrev pub AreAlike : Image → Image → Type 0
AreAlike m n = (d : ℕ) → (n d ≡ m d) ⊎ (is_fork_block (n d) ≡ false)

-- two cores have a fork's parts in common
pub record OwnParts (fork : Fork) (a b : Core3) : Type 0 where
  pub ino : b.ino ≡ a.ino
  pub forkoff : b.forkoff ≡ a.forkoff
  pub area : area_of b fork ≡ area_of a fork
  pub count : count_of b fork ≡ count_of a fork
  pub format : format_of b fork ≡ format_of a fork
  pub size : size_of b fork ≡ size_of a fork
  pub absent : is_absent b fork ≡ is_absent a fork

-- a fork without a fault is the same in each image in which its own blocks stay
abbrev pub GoodForkStays : Layout → Core3 → Fork → Type 0
GoodForkStays at core fork =
    (m n : Image) → (list : ForkList) → fork_in at m core fork ≡ Ok list → Stay at list.blocks m n →
    fork_in at n core fork ≡ Ok list

-- a fork whose met blocks stay is the same, its fault too, where no other block takes a magic number of forks
abbrev pub MetForkStays : Layout → Core3 → Fork → Type 0
MetForkStays at core fork =
    (m n : Image) → AreAlike m n → Stay at (met_of at m core fork).blocks m n →
    fork_in at n core fork ≡ fork_in at m core fork

-- a fork with a fault has one still, where no other block takes a magic number of forks
abbrev pub BadForkStaysBad : Layout → Core3 → Fork → Type 0
BadForkStaysBad at core fork =
    (m n : Image) → AreAlike m n → is_ok (fork_in at m core fork) ≡ false →
    is_ok (fork_in at n core fork) ≡ false

-- a core that has the fork's own parts in common has the same fork
abbrev pub HasOwnParts : Layout → Core3 → Fork → Type 0
HasOwnParts at core fork =
    (m : Image) → (other : Core3) → OwnParts fork core other → fork_in at m other fork ≡ fork_in at m core fork
