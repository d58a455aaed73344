-- One block of those that are changed in memory.
use Rattle.std.proofs.Common.{◌≡◌, ℕ, ◌≤◌, List, [], ◌∷◌, length, drop, refl, ap}
use Rattle.std.proofs.Math.ListN.{drop_of_length-le}
use Rattle.std.specs.Prelude.{◌==◌, if◌then◌else◌}
use Rattle.byte_fields.specs.declared.block.Block.{Block}
use Rattle.over_blocks.specs.Over.{over}

-- the bytes after those of the block, where it has this number
abbrev pub over_one : ℕ × Block → ℕ → List ℕ → List ℕ
over_one e p bytes = if p == e.0 then e.1.bytes else bytes

abbrev pub over_at : List (ℕ × Block) → ℕ → List ℕ → List ℕ
over_at [] p bytes = bytes
over_at (e ∷ es) p bytes = over_at es p (over_one e p bytes)

pub over_is : (es : List (ℕ × Block)) (m : ℕ → List ℕ) (p : ℕ) → over es m p ≡ over_at es p (m p)
unfolding over
over_is [] m p = refl
over_is (e ∷ es) m p = over_is es (λ b. if b == e.0 then e.1.bytes else m b) p

pub all_gone : (es : List (ℕ × Block)) (i p : ℕ) (bytes : List ℕ) → length es ≤ i → over_at (drop i es) p bytes ≡ bytes
all_gone es i p bytes past = ap (λ (xs : List (ℕ × Block)). over_at xs p bytes) (drop_of_length-le es past)
