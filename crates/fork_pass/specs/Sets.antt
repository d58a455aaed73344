-- Sets of claims, one a group, and what is put into them.
use Rattle.std.specs.Prelude.{◌≡◌, ℕ, zero, suc, List, [], ◌∷◌, ◌++◌, length}
use Rattle.unit_plan.specs.Sets.{pieces_of}
use Rattle.unit_plan.specs.declared.claims.ClaimSet.{ClaimSet}
use Rattle.unit_plan.specs.declared.piece.Piece.{Piece}

-- the pieces in the set of a group
unfoldable pub pieces_at : List ClaimSet → ℕ → List Piece
pieces_at [] g = []
pieces_at (s ∷ ss) zero = pieces_of s
pieces_at (s ∷ ss) (suc g) = pieces_at ss g

-- a set without claims for each of so many groups
pub record AreFresh (groups : ℕ) (sets : List ClaimSet) : Type 0 where
  pub long : length sets ≡ groups
  pub none : (g : ℕ) → pieces_at sets g ≡ []

-- each group's set gains these pieces, in this order
pub record Adds (old new : List ClaimSet) (more : ℕ → List Piece) : Type 0 where
  pub long : length new ≡ length old
  pub each : (g : ℕ) → pieces_at new g ≡ pieces_at old g ++ more g

-- all these pieces are put, once the rest of them are
pub record Leaves (old now : List ClaimSet) (all rest : ℕ → List Piece) : Type 0 where
  pub long : length now ≡ length old
  pub each : (g : ℕ) → pieces_at now g ++ rest g ≡ pieces_at old g ++ all g
