-- A test of each number below another.
use Rattle.std.specs.Prelude.{ℕ, zero, suc, Bool, true, ◌&&◌}

-- each of the first n numbers passes
unfoldable pub all_below : ℕ → (ℕ → Bool) → Bool
all_below zero p = true
all_below (suc n) p = all_below n p && p n
