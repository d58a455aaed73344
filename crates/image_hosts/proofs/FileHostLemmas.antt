-- A device over files, which tells nothing.
use Rattle.std.proofs.Common.{ℕ, Option, None, false, refl}
use Rattle.blk_device.specs.declared.device.Region.{Region}
use Rattle.blk_device.specs.declared.device.Region.TheVariants.{Image}
use Rattle.image_hosts.specs.Stored.{Stored, HasRoomFor, IsLent}
use Rattle.image_hosts.specs.declared.host.Purpose.{Purpose}
use Rattle.image_hosts.specs.declared.host.Purpose.TheVariants.{Check, Change, Make}

-- a device that tells nothing, with room for the purpose
pub lent_file : (purpose : Purpose) (redo : Option Stored) (blocks : Region → ℕ) → HasRoomFor purpose (blocks Image) → IsLent purpose false None redo None blocks
lent_file Check redo blocks room = refl
lent_file Change redo blocks room = refl
lent_file (Make n) redo blocks room = (refl, room)
