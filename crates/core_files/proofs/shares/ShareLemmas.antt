-- What is known of files by a geometry is known by an equal one.
use Rattle.std.proofs.Common.{◌≡◌, sym, subst}
use Rattle.std.specs.Prelude.{Option}
use Rattle.core_files.specs.Shares.Shares.{IsTarget}
use Rattle.core_files.specs.First.Spots.{IsSpot}
use Rattle.core_files.specs.declared.first.spots.Spot.{Spot}
use Rattle.file_cores.specs.Files.{IsFile}
use Rattle.file_cores.specs.declared.files.File.{File}
use Rattle.geom.specs.declared.geometry.Geometry.{Geometry}

pub file_kept : (a b : Geometry) (f : File) → b ≡ a → IsFile a f → IsFile b f
file_kept a b f is file = subst (λ (x : Geometry). IsFile x f) (sym is) file

pub target_kept : (a b : Geometry) (to : Option File) → b ≡ a → IsTarget a to → IsTarget b to
target_kept a b to is target = subst (λ (x : Geometry). IsTarget x to) (sym is) target

pub spot_kept : (a b : Geometry) (s : Spot) → b ≡ a → IsSpot a s → IsSpot b s
spot_kept a b s is spot = subst (λ (x : Geometry). IsSpot x s) (sym is) spot
