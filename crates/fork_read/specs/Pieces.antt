-- What a piece of a fork is, by the bytes of an image.
use Rattle.std.specs.Prelude.{◌≡◌, ℕ, ◌*◌, ◌/◌, ◌%◌, ◌<◌, ◌≤◌, length, true, false, List, [], map, take, drop, Option, Some, None, Result, Ok, Err, All, IfSome, ◌⊎◌, ⊤}
use Rattle.blk_cache.specs.Cache.{KeepsInFront, Stays}
use Rattle.blk_cache.specs.declared.cache.BlkCache.{BlkCache}
use Rattle.byte_fields.specs.FirstFailing.{Decodes}
use Rattle.byte_fields.specs.declared.block.Block.{Block}
use Rattle.geom.specs.Layout.{Layout, device_block_of, split_of}
use Rattle.dinode_core.specs.declared.inode.Core3.{Core3}
use Rattle.dinode_core.specs.declared.inode.CoreFault.{CoreFault}
use Rattle.dinode_core.specs.declared.mapping.Fork.{Fork}
use Rattle.dinode_core.specs.declared.mapping.ForkError.{ForkError}
use Rattle.dinode_core.specs.declared.mapping.ForkError.TheVariants.{Fault, Memory as NoMemory}
use Rattle.dinode_core.specs.declared.mapping.ForkFault.{ForkFault}
use Rattle.dinode_core.specs.Core.{core_fault, core_of}
use Rattle.dinode_core.specs.Inline.{in_range, inline_fault, inline_mappings, root_level}
use Rattle.dinode_core.specs.Shape.{area_of}
use Rattle.dinode_core.specs.ForkTree.{Image, Trail, is_tree, start}
use Rattle.fork_read.specs.declared.fault.ForkPiece.{ForkPiece}
use Rattle.fork_read.specs.declared.fault.ReadFault.{ReadFault}
use Rattle.fork_read.specs.declared.fault.ReadFault.TheVariants.{Fork as IsFork, Core as IsCoreFault, Failed, Memory}
use Rattle.fork_read.specs.declared.tasks.Task.{Task}
use Rattle.fork_read.specs.declared.walk.Stop.{Stop}
use Rattle.fork_read.specs.Answers.{IsPiece, IsStopped, judged, next_of}
use Rattle.fork_read.specs.Stuck.{HasCome}
use Rattle.fork_read.specs.Walk.{first_tasks, walk_all, walk_tasks}

-- at most 512 mappings; and where something is left one at least, and the next one is behind the offset
pub record IsSized (from : ℕ) (piece : ForkPiece) : Type 0 where
  pub most : length piece.mappings.items ≤ 512
  pub some : (offset : ℕ) → piece.next ≡ Some offset → 0 < length piece.mappings.items
  pub behind : (offset : ℕ) → piece.next ≡ Some offset → from < offset

-- each mapping lies in one group, and ends where a mapping may
abbrev pub AreInRange : Layout → Fork → ForkPiece → Type 0
AreInRange at fork piece = All (λ m. in_range at fork m ≡ true) piece.mappings.items

-- the 512 bytes of an inode in its block
abbrev pub slot_bytes : List ℕ → ℕ → List ℕ
slot_bytes block slot = take 512 (drop (512 * slot) block)

abbrev pub bytes_in : Layout → Image → ℕ → Option (ℕ × ℕ) → List ℕ
bytes_in at image slot None = []
bytes_in at image slot (Some place) = slot_bytes (image (device_block_of at place.0 place.1)) slot

-- the bytes of the inode of this number
abbrev pub inode_bytes : Layout → Image → ℕ → List ℕ
inode_bytes at image ino = bytes_in at image (ino % 8) (split_of at (ino / 8))

-- these bytes decode to a core, or show its first fault
abbrev pub DecodesCore : List ℕ → ℕ → List ℕ → Result Core3 CoreFault → Type 0
DecodesCore bytes ino uuid result = Decodes (core_fault bytes ino uuid) (λ core. core ≡ core_of bytes) result

-- the same where the block was to be read before
abbrev pub IsCore : List ℕ → ℕ → List ℕ → Result Core3 ReadFault → Type 0
IsCore bytes ino uuid (Ok core) = (core_fault bytes ino uuid ≡ None) × (core ≡ core_of bytes)
IsCore bytes ino uuid (Err (IsFork fault)) = ⊥
IsCore bytes ino uuid (Err (IsCoreFault fault)) = core_fault bytes ino uuid ≡ Some fault
IsCore bytes ino uuid (Err Failed) = ⊤
IsCore bytes ino uuid (Err Memory) = ⊥

-- the walk of the btree from the offset on ends so, with this trail
pub record Ends (at : Layout) (image : Image) (core : Core3) (fork : Fork) (from : ℕ) (stop : Stop) (trail : Trail) : Type 0 where
  pub rest : List Task
  pub reached : HasCome at image core from (first_tasks core fork from) start stop rest trail
  pub stopped : IsStopped (walk_all at image core fork from) (walk_tasks at image core from) from stop rest trail

-- the fault that the walk of a btree from the offset on meets first
pub record IsTreeFault (at : Layout) (image : Image) (core : Core3) (fork : Fork) (from : ℕ) (fault : ForkFault) : Type 0 where
  pub stop : Stop
  pub trail : Trail
  pub walked : Ends at image core fork from stop trail
  pub found : judged at fork (root_level (area_of core fork)) stop trail ≡ Some fault

-- what the walk of a btree from the offset on meets, without a fault
pub record IsTreePiece (at : Layout) (image : Image) (core : Core3) (fork : Fork) (from : ℕ) (piece : ForkPiece) : Type 0 where
  pub stop : Stop
  pub trail : Trail
  pub walked : Ends at image core fork from stop trail
  pub good : judged at fork (root_level (area_of core fork)) stop trail ≡ None
  pub given : IsPiece from trail.mappings (map (λ b. b.block) trail.blocks) (next_of stop) piece

abbrev pub IsTreeAnswer : Layout → Image → Core3 → Fork → ℕ → Result ForkPiece ReadFault → Type 0
IsTreeAnswer at image core fork from (Ok piece) = IsTreePiece at image core fork from piece
IsTreeAnswer at image core fork from (Err (IsFork fault)) = IsTreeFault at image core fork from fault
IsTreeAnswer at image core fork from (Err (IsCoreFault fault)) = ⊥
IsTreeAnswer at image core fork from (Err Failed) = ⊤
IsTreeAnswer at image core fork from (Err Memory) = ⊤

-- the piece of a fork from the offset on: of what the inode itself shows, or of its btree
abbrev pub IsForkPiece : Layout → Image → Core3 → Fork → ℕ → ForkPiece → Type 0
IsForkPiece at image core fork from piece =
    (inline_fault at core fork ≡ None)
    × (is_tree core fork ≡ false → IsPiece from (inline_mappings core fork) [] None piece)
    × (is_tree core fork ≡ true → IsTreePiece at image core fork from piece)

-- the fault that the inode itself shows, or else the btree
abbrev pub IsForkFault : Layout → Image → Core3 → Fork → ℕ → ForkFault → Type 0
IsForkFault at image core fork from fault =
    (inline_fault at core fork ≡ Some fault)
    ⊎ ((inline_fault at core fork ≡ None) × (is_tree core fork ≡ true) × IsTreeFault at image core fork from fault)

-- what the inode itself shows is refused for this
abbrev pub IsRefused : ForkError → ReadFault → Type 0
IsRefused (Fault fault) error = error ≡ IsFork fault
IsRefused NoMemory error = error ≡ Memory

abbrev pub IsForkAnswer : Layout → Image → Core3 → Fork → ℕ → Result ForkPiece ReadFault → Type 0
IsForkAnswer at image core fork from (Ok piece) = IsForkPiece at image core fork from piece
IsForkAnswer at image core fork from (Err (IsFork fault)) = IsForkFault at image core fork from fault
IsForkAnswer at image core fork from (Err (IsCoreFault fault)) = ⊥
IsForkAnswer at image core fork from (Err Failed) = ⊤
IsForkAnswer at image core fork from (Err Memory) = ⊤

-- the answer for an inode of this number: its core's first fault, its fork's, or a piece
abbrev pub IsAnswer : Layout → Image → ℕ → Fork → ℕ → Result ForkPiece ReadFault → Type 0
IsAnswer at image ino fork from (Ok piece) =
    (core_fault (inode_bytes at image ino) ino at.uuid ≡ None) × IsForkPiece at image (core_of (inode_bytes at image ino)) fork from piece
IsAnswer at image ino fork from (Err (IsFork fault)) =
    (core_fault (inode_bytes at image ino) ino at.uuid ≡ None) × IsForkFault at image (core_of (inode_bytes at image ino)) fork from fault
IsAnswer at image ino fork from (Err (IsCoreFault fault)) = core_fault (inode_bytes at image ino) ino at.uuid ≡ Some fault
IsAnswer at image ino fork from (Err Failed) = ⊤
IsAnswer at image ino fork from (Err Memory) = ⊤

-- a cache keeps what it kept, but for the block at this place, which may be in front now
abbrev pub CachesAt : ℕ → BlkCache → BlkCache → Type 0
CachesAt at old new = Stays old new ⊎ ((block : Block) × KeepsInFront at block old new)

-- no other block than the inode's is put into the cache
abbrev pub CachesInode : Layout → ℕ → BlkCache → BlkCache → Type 0
CachesInode at ino old new = IfSome (split_of at (ino / 8)) (λ place. CachesAt (device_block_of at place.0 place.1) old new)
