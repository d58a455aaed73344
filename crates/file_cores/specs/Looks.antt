-- What reads of files keep of the device and its cache.
use Rattle.std.specs.Prelude.{◌≡◌, ◌≤◌, Bool, true, false, Result, Ok, Err}
use Rattle.blk_cache.specs.Cache.{AgreesTold}
use Rattle.blk_cache.specs.declared.cache.BlkCache.{BlkCache}
use Rattle.blk_device.specs.Causes.{Rose}
use Rattle.blk_device.specs.declared.device.Device.{Ghosts}
use Rattle.file_cores.specs.declared.stop.FileStop.{FileStop}
use Rattle.file_cores.specs.declared.stop.FileStop.TheVariants as stops

-- the stop is the device's
abbrev pub is_failed : FileStop → Bool
is_failed stops.NoFile = false
is_failed stops.TreeFork = false
is_failed stops.Failed = true
is_failed stops.Memory = false

-- the answer is a failure of the device
abbrev pub failed_in : {T : Type 0} → Result T FileStop → Bool
failed_in (Ok answer) = false
failed_in (Err stop) = is_failed stop

-- The device tells the same, with the same sizes; its count of faults doesn't fall, and rose where it failed; and what is
-- kept of it is so.
pub record Looks {D : Type 0} (d : Ghosts D) (failed : Bool) (old new : D) (cache : BlkCache) : Type 0 where
  pub same : d.content new ≡ d.content old
  pub sizes : d.blocks new ≡ d.blocks old
  pub later : d.faults old ≤ d.faults new
  pub rose : failed ≡ true → Rose (d.faults old) (d.faults new)
  pub agreed : AgreesTold cache (d.content new)
