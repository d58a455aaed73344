-- A refusal beside what the definition gives.
use Rattle.std.specs.Prelude.{◌≡◌, ℕ, List, Option, Some, Result, Err, ⊤}
use Rattle.sblock.specs.declared.block.BlockFault.{BlockFault}
use Rattle.tree_blocks.specs.declared.tree.WalkFault.{WalkFault}
use Rattle.tree_blocks.specs.declared.tree.WalkFault.TheVariants.{Bad, Failed, Memory}

-- a fault of the tree is the one that is read; the others have causes outside of it
abbrev pub Refuses : {A : Type 0} → Result A (ℕ × BlockFault) → WalkFault → Type 0
Refuses read (Bad block fault) = read ≡ Err (block, fault)
Refuses read Failed = ⊤
Refuses read Memory = ⊤

-- a block is refused for the first of its tests that fails
abbrev pub RefusesBlock : ℕ → Option BlockFault → WalkFault → Type 0
RefusesBlock p first (Bad block fault) = (block ≡ p) × (first ≡ Some fault)
RefusesBlock p first Failed = ⊤
RefusesBlock p first Memory = ⊤

-- the same of a group's block, by its first test that fails, where the group's blocks are told
abbrev pub RefusesTold : Option (ℕ → List ℕ) → ℕ → (List ℕ → Option BlockFault) → WalkFault → Type 0
RefusesTold told p first fault = (m : ℕ → List ℕ) → told ≡ Some m → RefusesBlock p (first (m p)) fault

abbrev pub IsMemory : WalkFault → Type 0
IsMemory fault = fault ≡ Memory

-- no memory was asked for
abbrev pub IsNoMemory : WalkFault → Type 0
IsNoMemory (Bad block fault) = ⊤
IsNoMemory Failed = ⊤
IsNoMemory Memory = ⊥
