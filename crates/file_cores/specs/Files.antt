-- What is known of a file that was read to be changed.
use Rattle.std.specs.Prelude.{◌≡◌, ◌<◌, Some}
use Rattle.dinode_core.specs.Shape.{format_of}
use Rattle.dinode_core.specs.declared.mapping.Fork.TheVariants.{Data}
use Rattle.dinode_core.specs.declared.shape.Format.TheVariants.{Extents}
use Rattle.file_cores.specs.declared.files.File.{File}
use Rattle.fork_change.specs.Lists.{AllFit}
use Rattle.geom.specs.Places.{HasInode}
use Rattle.geom.specs.declared.geometry.Geometry.{Geometry}

-- its place exists, its data fork is kept as a list of mappings, and these have numbers that fit
pub record IsFile (geo : Geometry) (f : File) : Type 0 where
  pub place : HasInode geo f.place
  pub extents : format_of f.core Data ≡ Some Extents
  pub inside : f.core.forkoff < 42
  pub list : AllFit f.list.items
