-- When a store can be asked, and what each call on it keeps.
use Rattle.std.specs.Prelude.{◌≡◌, ◌≤◌}
use Rattle.blk_cache.specs.Cache.{AgreesTold}
use Rattle.blk_device.specs.declared.device.Device.{Ghosts}
use Rattle.blk_device.specs.declared.device.Region.TheVariants.{Image, Redo}
use Rattle.redo_area.specs.Recover.{StaysTold}
use Rattle.redo_area.specs.declared.TheConstants.{REDO_BLOCKS}
use Rattle.core_edit.specs.declared.store.Store.{Store}

-- the device has the image's blocks, and those of a batch
pub record HasRoom {D : Type 0} (d : Ghosts D) (s : Store D) : Type 0 where
  pub image : s.geo.dblocks ≤ d.blocks s.dev Image
  pub redo : REDO_BLOCKS ≤ d.blocks s.dev Redo

-- and what is kept of it is the device's
pub record IsReady {D : Type 0} (d : Ghosts D) (s : Store D) : Type 0 where
  pub room : HasRoom d s
  pub agreed : AgreesTold s.cache (d.content s.dev)

-- The geometry and the sizes stay, the count of faults doesn't fall, and what the device tells it still tells.
pub record KeepsStore {D : Type 0} (d : Ghosts D) (old new : Store D) : Type 0 where
  pub geometry : new.geo ≡ old.geo
  pub sizes : d.blocks new.dev ≡ d.blocks old.dev
  pub later : d.faults old.dev ≤ d.faults new.dev
  pub told : StaysTold (d.content old.dev) (d.content new.dev)
