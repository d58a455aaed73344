-- A block of zeros.
use Rattle.std.specs.Prelude.{ℕ, List, replicate}

-- Not an abbrev, so that no goal computes its 4,096 items.
unfoldable pub zeros : List ℕ
zeros = replicate 4096 0
