-- What is left of a range of a fork: at least one block, the last one below 2^54, at both ends of a share.
use Rattle.std.specs.Prelude.{◌<◌, ◌≤◌, ◌+◌, ◌^◌}
use Rattle.live_fs.specs.declared.pieces.Stretch.{Stretch}

pub record IsFit (s : Stretch) : Type 0 where
  pub some : 0 < s.count
  pub from : s.offset + s.count ≤ 2 ^ 54
  pub to : s.to_offset + s.count ≤ 2 ^ 54
