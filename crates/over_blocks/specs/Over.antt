-- Blocks of a group with some of them changed in memory.
use Rattle.std.specs.Prelude.{ℕ, ◌==◌, if◌then◌else◌, List, [], ◌∷◌, Option, Some, None}
use Rattle.byte_fields.specs.declared.block.Block.{Block}

-- the blocks with these in the place of those with their numbers; of two with one number the later one counts
unfoldable pub over : List (ℕ × Block) → (ℕ → List ℕ) → ℕ → List ℕ
over [] m p = m p
over (e ∷ es) m p = over es (λ b. if b == e.0 then e.1.bytes else m b) p

-- where the blocks are told
abbrev pub told_over : List (ℕ × Block) → Option (ℕ → List ℕ) → Option (ℕ → List ℕ)
told_over placed None = None
told_over placed (Some m) = Some (over placed m)
