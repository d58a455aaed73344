-- What comes of a run: the device comes back with its sizes, its count of faults doesn't fall, and each end has its cause.
use Rattle.std.specs.Prelude.{◌≡◌, ◌≤◌, ℕ}
use Rattle.blk_device.specs.declared.device.Device.{Ghosts}
use Rattle.blk_device.specs.declared.device.Region.{Region}
use Rattle.blk_device.specs.declared.device.Region.TheVariants.{Image, Redo}
use Rattle.live_fs.specs.declared.origin.Origin.{Origin}
use Rattle.quiet_repair.specs.Ends.{EndsWell}
use Rattle.quiet_repair.specs.declared.repair.Repair.{Repair}

-- of a device with these blocks and this count of faults before
pub record IsRun {D : Type 0} (d : Ghosts D) (blocks : Region → ℕ) (before : ℕ) (r : D × Repair) : Type 0 where
  pub sizes : d.blocks r.0 ≡ blocks
  pub later : before ≤ d.faults r.0
  pub ends : EndsWell before (d.faults r.0) r.1

-- of a core with this origin
pub record IsRunFrom {D : Type 0} (d : Ghosts D) (o : Origin) (r : D × Repair) : Type 0 where
  pub image : d.blocks r.0 Image ≡ o.image_blocks
  pub redo : d.blocks r.0 Redo ≡ o.redo_blocks
  pub later : o.begun ≤ d.faults r.0
  pub ends : EndsWell o.begun (d.faults r.0) r.1
