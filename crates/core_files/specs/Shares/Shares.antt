-- The files of a sharing.
use Rattle.std.specs.Prelude.{Option, None, Some, IfSome}
use Rattle.core_files.specs.declared.first.writes.PlacedCore.{PlacedCore}
use Rattle.file_cores.specs.Files.{IsFile}
use Rattle.file_cores.specs.declared.files.File.{File}
use Rattle.geom.specs.Places.{HasInode}
use Rattle.geom.specs.declared.geometry.Geometry.{Geometry}

-- the second file, where there is one
abbrev pub IsTarget : Geometry → Option File → Type 0
IsTarget geo to = IfSome to (IsFile geo)

-- the second inode's place, where there is one
abbrev pub IsPlaced : Geometry → Option PlacedCore → Type 0
IsPlaced geo to = IfSome to (λ p. HasInode geo p.place)
