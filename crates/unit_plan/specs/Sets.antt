-- A set of claims, as contracts see it, and its first overlap.
use Rattle.std.specs.Prelude.{◌≡◌, ℕ, ◌+◌, ◌≤◌, List, [], ◌∷◌, Option}
use Rattle.fs_model.specs.declared.claim.Evidence.{Evidence}
use Rattle.fs_state.specs.Contradiction.{overlap_among}
use Rattle.fs_state.specs.Lists.{numbers}
use Rattle.unit_plan.specs.declared.claims.ClaimSet.{ClaimSet}
use Rattle.unit_plan.specs.declared.piece.Among.{Among}
use Rattle.unit_plan.specs.declared.piece.Piece.{Piece}
use Rattle.unit_plan.specs.Pieces.{claimed_blocks}

abbrev pub pieces_of : ClaimSet → List Piece
pieces_of set = set.pieces.items

-- no block of the pieces is at this number or above
abbrev pub LieBelow : ℕ → List Piece → Type 0
LieBelow length [] = Unit {0}
LieBelow length (p ∷ ps) = (p.run.start + p.run.count ≤ length) × LieBelow length ps

-- it is the overlap of the lowest block, in a group of any length in which the pieces lie
unfoldable pub IsFirstOverlap : Among → List Piece → Option Evidence → Type 0
IsFirstOverlap among ps e = (length : ℕ) → LieBelow length ps → e ≡ overlap_among (claimed_blocks among ps) (numbers 0 length)
