-- What a reading with some blocks changed in memory keeps.
use Rattle.std.specs.Prelude.{◌≡◌, ℕ, List}
use Rattle.std.specs.Borrow.{MutBor}
use Rattle.byte_fields.specs.declared.block.Block.{Block}
use Rattle.tree_blocks.specs.Calls.{Reads}
use Rattle.tree_blocks.specs.declared.blocks.Blocks.{Ghosts}

-- The same blocks are referred to and were only read, and the changed ones are the same.
pub record Lasts {B : Type 0} (g : Ghosts B) (old new : MutBor B) (placed_old placed_new : List (ℕ × Block)) : Type 0 where
  pub same_name : new.ghost_name ≡ old.ghost_name
  pub reading : Reads g old.now new.now
  pub placed : placed_new ≡ placed_old
