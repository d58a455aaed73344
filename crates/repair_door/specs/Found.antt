-- What stands on a device that has passed.
use Rattle.std.specs.Prelude.{◌≡◌, ℕ, false, None}
use Rattle.blk_device.specs.Contents.{Contents}
use Rattle.blk_device.specs.declared.device.Region.TheVariants.{Image}
use Rattle.geom.specs.Layout.{layout_of}
use Rattle.geom.specs.Places.{layout}
use Rattle.geom.specs.Superblock.{first_fault}
use Rattle.geom.specs.declared.geometry.Geometry.{Geometry}
use Rattle.redo_area.specs.Area.{is_open}

-- no change waits in the redo region
abbrev pub IsClosed : Contents → Type 0
IsClosed m = is_open m ≡ false

-- the superblock of an image of this size passes, and this is the geometry that it tells
pub record HasGeometry (size : ℕ) (geo : Geometry) (m : Contents) : Type 0 where
  pub superblock : first_fault (m Image 0) size ≡ None
  pub places : layout_of (m Image 0) ≡ layout geo
