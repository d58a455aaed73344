-- What a window of blocks that were read ahead holds.
use Rattle.std.specs.Prelude.{◌≡◌, ℕ, ◌+◌, ◌-◌, ◌*◌, ◌≤◌, nat_le, nat_lt, ◌&&◌, if◌then◌else◌, List, take, drop, Option, Some, None, IfSome, is_some, vec_len}
use Rattle.blk_device.specs.declared.window.Window.{Window}

-- the block of that number, of so many that stand one behind the other from the first on
abbrev pub block_among : ℕ → ℕ → List ℕ → ℕ → Option (List ℕ)
block_among first count bytes at = if nat_le first at && nat_lt (at - first) count then Some (take 4096 (drop ((at - first) * 4096) bytes)) else None

-- the block of that number, where the window holds it
abbrev pub block_in : Window → ℕ → Option (List ℕ)
block_in w = block_among w.first w.held w.bytes.items

-- how many bytes it has room for
abbrev pub room_of : Window → ℕ
room_of w = vec_len w.bytes

-- each block that it holds is the one that stands there in a file, which has these bytes from `at` on
abbrev pub HoldsOf : ℕ → List ℕ → Window → Type 0
HoldsOf at left w = (b : ℕ) → IfSome (block_in w b) (λ bytes. (at ≤ b) × (bytes ≡ take 4096 (drop ((b - at) * 4096) left)))

-- it holds the blocks from `at` on before `next`, and no other
abbrev pub HoldsUpTo : ℕ → ℕ → Window → Type 0
HoldsUpTo at next w = (b : ℕ) → is_some (block_in w b) ≡ (nat_le at b && nat_lt b next)

-- the block of that number is the last one that it holds
abbrev pub IsLastIn : Window → ℕ → Type 0
IsLastIn w at = (w.first ≤ at) × (at + 1 ≡ w.first + w.held)
