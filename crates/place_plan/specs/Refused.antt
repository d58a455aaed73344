-- Why a block on the way is refused.
use Rattle.std.specs.Prelude.{◌≡◌, ℕ, List, Option, Some, ⊤}
use Rattle.sblock.specs.declared.block.BlockFault.{BlockFault}
use Rattle.edit_terms.specs.declared.fault.EditFault.{EditFault}
use Rattle.edit_terms.specs.declared.fault.EditFault.TheVariants.{Bad, Missing, Overlap, Short, TooLarge, Failed, Memory}

-- the block fails this test first, where the group's blocks are told; or the device failed
abbrev pub IsOfBlock : Option (ℕ → List ℕ) → ℕ → (List ℕ → Option BlockFault) → EditFault → Type 0
IsOfBlock told p first (Bad block fault) = (m : ℕ → List ℕ) → told ≡ Some m → (block ≡ p) × (first (m p) ≡ Some fault)
IsOfBlock told p first Missing = ⊥
IsOfBlock told p first Overlap = ⊥
IsOfBlock told p first (Short have need) = ⊥
IsOfBlock told p first (TooLarge n) = ⊥
IsOfBlock told p first Failed = ⊤
IsOfBlock told p first Memory = ⊥
