-- Where a piece of a mapping lies.
use Rattle.std.specs.Prelude.{◌<◌, ◌+◌, ◌^◌}
use Rattle.core_files.specs.declared.first.spots.Spot.{Spot}
use Rattle.geom.specs.declared.geometry.Geometry.{Geometry}

-- its group exists, it has blocks, and they have an end
pub record IsSpot (geo : Geometry) (s : Spot) : Type 0 where
  pub group : s.group < geo.agcount
  pub some : 0 < s.count
  pub ends : s.block + s.count < 2 ^ 32
