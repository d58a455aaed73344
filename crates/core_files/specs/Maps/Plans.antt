-- A mapping that is to be made.
use Rattle.std.specs.Prelude.{◌<◌}
use Rattle.core_files.specs.First.Spots.{IsSpot}
use Rattle.core_files.specs.declared.maps.plans.Plan.{Plan}
use Rattle.geom.specs.Places.{HasInode}
use Rattle.geom.specs.declared.geometry.Geometry.{Geometry}

-- its blocks lie in a group, its inode's place exists, and its chain has a number
pub record IsPlan (geo : Geometry) (p : Plan) : Type 0 where
  pub spot : IsSpot geo p.spot
  pub place : HasInode geo p.place
  pub number : p.held.number < 16
