-- How much work was done.
use Rattle.std.specs.Prelude.{ℕ}

-- the blocks that were read, the blocks that were written, and the records that were moved
pub record StepCount : Type 0 where
  pub reads : ℕ
  pub writes : ℕ
  pub moves : ℕ
