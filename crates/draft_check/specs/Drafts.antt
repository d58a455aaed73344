-- Blocks that an edit made in memory, by their numbers in the group.
use Rattle.std.specs.Prelude.{◌≡◌, ◌⊎◌, ℕ, List, [], ◌∷◌}
use Rattle.byte_fields.specs.Fields.{field}
use Rattle.byte_fields.specs.declared.block.Block.{Block}

-- each has this log sequence number
abbrev pub AreStamped : ℕ → List (ℕ × Block) → Type 0
AreStamped lsn [] = Unit {0}
AreStamped lsn (e ∷ es) = (field 8 e.1.bytes 24 ≡ lsn) × AreStamped lsn es

-- one with this number has these bytes
abbrev pub HasBytes : ℕ → List ℕ → List (ℕ × Block) → Type 0
HasBytes b bytes [] = ⊥
HasBytes b bytes (e ∷ es) = ((e.0 ≡ b) × (e.1.bytes ≡ bytes)) ⊎ HasBytes b bytes es
