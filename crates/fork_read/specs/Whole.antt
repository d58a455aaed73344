-- Pieces of a fork one after another, and what they are in sum.
use Rattle.std.specs.Prelude.{◌≡◌, ℕ, ◌<◌, ◌≤◌, List, [], ◌∷◌, ◌++◌, length, map, Option, None, Some, ◌⊎◌}
use Rattle.geom.specs.Layout.{Layout}
use Rattle.dinode_core.specs.declared.inode.Core3.{Core3}
use Rattle.dinode_core.specs.declared.mapping.Mapping.{Mapping}
use Rattle.dinode_core.specs.declared.mapping.Fork.{Fork}
use Rattle.dinode_core.specs.declared.mapping.ForkFault.{ForkFault}
use Rattle.dinode_core.specs.declared.mapping.ForkFault.TheVariants as faults
use Rattle.dinode_core.specs.Inline.{first_bad}
use Rattle.dinode_core.specs.ForkTree.{Image, Trail, TreeBlock, met_of, start, walk_fault}
use Rattle.fork_read.specs.declared.fault.ForkPiece.{ForkPiece}
use Rattle.fork_read.specs.declared.tasks.Task.{Task}
use Rattle.fork_read.specs.Parts.{Each, IsPart}
use Rattle.fork_read.specs.Pieces.{IsForkFault, IsForkPiece}
use Rattle.fork_read.specs.Stuck.{IsBehind}
use Rattle.fork_read.specs.Walk.{first_tasks}

-- pieces one after another, each from where the one before leaves something, and what the last one leaves
abbrev pub Follow : Layout → Image → Core3 → Fork → Option ℕ → List ForkPiece → Option ℕ → Type 0
Follow at image core fork next [] left = next ≡ left
Follow at image core fork None (piece ∷ pieces) left = ⊥
Follow at image core fork (Some from) (piece ∷ pieces) left =
    IsForkPiece at image core fork from piece × Follow at image core fork piece.next pieces left

abbrev pub all_mappings : List ForkPiece → List Mapping
all_mappings [] = []
all_mappings (piece ∷ pieces) = piece.mappings.items ++ all_mappings pieces

abbrev pub all_blocks : List ForkPiece → List ℕ
all_blocks [] = []
all_blocks (piece ∷ pieces) = piece.tree_blocks.items ++ all_blocks pieces

-- the fork has no fault but maybe the number of its mappings, and these are its mappings and blocks
pub record IsWhole (at : Layout) (image : Image) (core : Core3) (fork : Fork) (mappings : List Mapping) (blocks : List ℕ) : Type 0 where
  pub good : walk_fault at image core fork ≡ None
  pub mappings_are : mappings ≡ (met_of at image core fork).mappings
  pub blocks_are : blocks ≡ map (λ b. b.block) (met_of at image core fork).blocks

-- The first mapping that these pieces leave of the fork begins at this offset, and they have exactly the blocks of its
-- btree whose first mapping is one of theirs.
pub record LeavesRest (at : Layout) (image : Image) (core : Core3) (fork : Fork) (pieces : List ForkPiece) (next : ℕ) : Type 0 where
  pub first : Mapping
  pub more : List Mapping
  pub mappings_are : (met_of at image core fork).mappings ≡ all_mappings pieces ++ first ∷ more
  pub begins : first.offset ≡ next
  pub own : List TreeBlock
  pub later : List TreeBlock
  pub blocks_are : (met_of at image core fork).blocks ≡ own ++ later
  pub given : all_blocks pieces ≡ map (λ b. b.block) own
  pub own_first : Each (λ b. b.before < length (all_mappings pieces)) own
  pub later_first : Each (λ b. length (all_mappings pieces) ≤ b.before) later

-- the last of these mappings has this fault by itself, whatever follows it
pub record LastBad (at : Layout) (fork : Fork) (mappings : List Mapping) (fault : ForkFault) : Type 0 where
  pub front : List Mapping
  pub last : Mapping
  pub split : mappings ≡ front ++ last ∷ []
  pub own : first_bad at fork (last ∷ []) ≡ Some fault

-- none of these mappings is bad, and the fault is Order, or the last one has this fault by itself
abbrev pub IsUnseen : Layout → Fork → List Mapping → ForkFault → Type 0
IsUnseen at fork mappings fault = ((first_bad at fork mappings ≡ None) × (fault ≡ faults.Order)) ⊎ LastBad at fork mappings fault

-- a piece from this offset on came to a subtree where none can begin, so that the fork has a fault, and 28 sound
-- blocks behind it don't show the first one
pub record IsCut (at : Layout) (image : Image) (core : Core3) (fork : Fork) (from : ℕ) (fault : ForkFault) : Type 0 where
  pub left : List Task
  pub after : Trail
  pub behind : IsBehind at image core from (first_tasks core fork from) start left after
  pub unseen : IsUnseen at fork after.mappings fault
  pub bad : walk_fault at image core fork ≡ None → ⊥

-- pieces from 0 on, one after another until nothing is left, are in sum the whole fork
abbrev pub PiecesJoin : Layout → Core3 → Fork → Type 0
PiecesJoin at core fork =
    (image : Image) (pieces : List ForkPiece) → Follow at image core fork (Some 0) pieces None → IsWhole at image core fork (all_mappings pieces) (all_blocks pieces)

-- pieces from 0 on of a fork without a fault leave something exactly where a mapping is left, and a block where its first
-- mapping is left
abbrev pub PiecesLeaveRest : Layout → Core3 → Fork → Type 0
PiecesLeaveRest at core fork =
    (image : Image) (pieces : List ForkPiece) (next : ℕ) → Follow at image core fork (Some 0) pieces (Some next) → 0 < next
    → walk_fault at image core fork ≡ None → LeavesRest at image core fork pieces next

-- the fault for which the next of pieces from 0 on is refused is the fork's first one, or no piece can begin behind it
abbrev pub RefusalsAreFirst : Layout → Core3 → Fork → Type 0
RefusalsAreFirst at core fork =
    (image : Image) (pieces : List ForkPiece) (from : ℕ) (fault : ForkFault) → Follow at image core fork (Some 0) pieces (Some from)
    → IsForkFault at image core fork from fault → (walk_fault at image core fork ≡ Some fault) ⊎ IsCut at image core fork from fault

-- there is a first fault
abbrev pub HasFault : Option ForkFault → Type 0
HasFault found = (fault : ForkFault) × (found ≡ Some fault)

-- pieces from 0 on come to the end of a fork that has no first fault, and of one that has some a piece is refused
abbrev pub FirstFaultTells : Layout → Core3 → Fork → Type 0
FirstFaultTells at core fork =
    (image : Image) (pieces : List ForkPiece) → (Follow at image core fork (Some 0) pieces None → walk_fault at image core fork ≡ None)
    × ((from : ℕ) (fault : ForkFault) → Follow at image core fork (Some 0) pieces (Some from) → IsForkFault at image core fork from fault → HasFault (walk_fault at image core fork))

-- a piece of a fork without a fault has nothing of other forks
abbrev pub PiecesAreParts : Layout → Core3 → Fork → Type 0
PiecesAreParts at core fork =
    (image : Image) (from : ℕ) (piece : ForkPiece) → IsForkPiece at image core fork from piece → walk_fault at image core fork ≡ None
    → IsPart at image core fork piece
