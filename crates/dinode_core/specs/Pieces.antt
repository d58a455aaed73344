-- Bytes with pieces put in, each at its offset.
use Rattle.std.specs.Prelude.{ℕ, ◌+◌, ◌<◌, ◌≤◌, ⊤, ◌⊎◌, List, [], ◌∷◌}
use Rattle.std.specs.List.{splice}
use Rattle.byteorder.specs.Endian.{big_bytes}

-- bytes for the width at an offset
pub record Piece : Type 0 where
  pub at : ℕ
  pub width : ℕ
  pub bytes : List ℕ

-- a number of n bytes, the highest first
abbrev pub number : ℕ → ℕ → ℕ → Piece
number n at value = record { at = at; width = n; bytes = big_bytes n value }

-- all other bytes stay
abbrev pub with_pieces : List Piece → List ℕ → List ℕ
with_pieces [] bytes = bytes
with_pieces (p ∷ ps) bytes = with_pieces ps (splice bytes p.at (p.at + p.width) p.bytes)

-- the byte with this number is in none of the pieces
abbrev pub IsOutside : ℕ → List Piece → Type 0
IsOutside i [] = ⊤
IsOutside i (p ∷ ps) = ((i < p.at) ⊎ (p.at + p.width ≤ i)) × IsOutside i ps
