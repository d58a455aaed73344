-- How the journal grows by marks.
use Rattle.std.specs.Prelude.{◌≡◌, ◌≤◌, ◌+◌}
use Rattle.std.specs.Vec.{vec_capacity, vec_len}
use Rattle.std.specs.declared.vec.Vec.{Vec}
use Rattle.std.specs.declared.alloc.Global.{Global}
use Rattle.fs_model.specs.declared.entry.Entry.{Entry}

-- by one entry at most, in room that was there
pub record IsLonger (old new : Vec Entry Global) : Type 0 where
  pub few : vec_len new ≤ vec_len old + 1
  pub capacity : vec_capacity new ≡ vec_capacity old
