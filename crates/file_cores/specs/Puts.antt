-- One block more in a transaction, with other bytes.
use Rattle.std.specs.Prelude.{◌≡◌, ◌<◌, ℕ, List}
use Rattle.meta_txn.specs.Joined.{with_block}
use Rattle.redo_area.specs.Area.{Batch}

-- a block below the size is joined, and all others are as they were
pub record PutsOne (size : ℕ) (old new : Batch) : Type 0 where
  pub at : ℕ
  pub bytes : List ℕ
  pub inside : at < size
  pub put : new ≡ with_block at bytes old
