-- The answer of a search beside what the definition gives.
use Rattle.std.specs.Prelude.{◌≡◌, ℕ, ◌+◌, ◌<◌, ◌≤◌, List, Option, Some, None, Result, Ok, Err}
use Rattle.sblock.specs.declared.block.BlockFault.{BlockFault}
use Rattle.sblock.specs.Area.{child_of}
use Rattle.sblock.specs.declared.kind.Kind.{Kind}
use Rattle.tree_blocks.specs.Meets.{Refuses}
use Rattle.tree_blocks.specs.declared.tree.WalkFault.{WalkFault}
use Rattle.tree_cover.specs.declared.search.Spare.{Spare}

-- the search gives this record or none, or is refused
abbrev pub MeetsSearch : {R : Type 0} → Result (Option R) (ℕ × BlockFault) → Result (Option R) WalkFault → Type 0
MeetsSearch search (Ok found) = search ≡ Ok found
MeetsSearch search (Err fault) = Refuses search fault

-- the block is that of one of n entries of a node
abbrev pub IsChild : Kind → List ℕ → ℕ → ℕ → Type 0
IsChild kind area n p = (k : ℕ) × (k < n) × (p ≡ child_of kind area k)

-- the spare is a block of the group, on this level or above it
abbrev pub IsSpare : ℕ → ℕ → Option Spare → Type 0
IsSpare length level None = Unit {0}
IsSpare length level (Some spare) = (spare.block < length) × (level ≤ spare.level)

-- how many blocks of a spare are read at most: of this one, or of one that is still found below a
-- block of this level
abbrev pub most_behind : ℕ → Option Spare → ℕ
most_behind level None = level
most_behind level (Some spare) = spare.level + 1
