-- Places in the list of joined blocks, counted from 0.
use Rattle.std.specs.Prelude.{ℕ, zero, suc, nat_lt, ◌==◌, Bool, false, if◌then◌else◌, List, [], ◌∷◌, Result, Ok, Err}
use Rattle.redo_area.specs.Area.{Batch}

-- the place of this number, which so many lower numbers come before
abbrev pub place : ℕ → Batch → ℕ
place at [] = 0
place at (p ∷ ps) = if nat_lt p.0 at then suc (place at ps) else 0

-- a block with this number stands in that place
abbrev pub is_there : ℕ → Batch → Bool
is_there at [] = false
is_there at (p ∷ ps) = if nat_lt p.0 at then is_there at ps else p.0 == at

-- where the number stands, or else where it belongs
abbrev pub found : ℕ → Batch → Result ℕ ℕ
found at blocks = if is_there at blocks then Ok (place at blocks) else Err (place at blocks)

-- the bytes of the block in this place
abbrev pub bytes_in : ℕ → Batch → List ℕ
bytes_in i [] = []
bytes_in zero (p ∷ ps) = p.1
bytes_in (suc i) (p ∷ ps) = bytes_in i ps

-- the blocks with these bytes in the one in this place
abbrev pub set_bytes : ℕ → List ℕ → Batch → Batch
set_bytes i bytes [] = []
set_bytes zero bytes (p ∷ ps) = (p.0, bytes) ∷ ps
set_bytes (suc i) bytes (p ∷ ps) = p ∷ set_bytes i bytes ps
