-- The two lists of a transaction, and their room.
use Rattle.std.specs.Prelude.{◌≡◌, ◌≤◌, ◌^◌, ℕ, true, vec_len, vec_capacity}
use Rattle.std.specs.declared.vec.Vec.{Vec}
use Rattle.std.specs.declared.alloc.Global.{Global}
use Rattle.byte_fields.specs.declared.block.Block.{Block}
use Rattle.redo_area.specs.declared.TheConstants.{MAX_BATCH}
use Rattle.redo_area.specs.Table.{places, rises}

-- at most 160 blocks, with room for so many, and their numbers rise
pub record HasRoom (list : Vec (ℕ × Block) Global) : Type 0 where
  pub few : vec_len list ≤ MAX_BATCH
  pub room : MAX_BATCH ≤ vec_capacity list
  pub rise : rises 0 (2 ^ 64) (places list.items) ≡ true
