use Rattle.blk_device.specs.Recorded.{seen}
use Rattle.blk_cache.specs.Cache.{Agrees}
use Rattle.test_devices.proofs.cache.reads_in.Given as goal

abbrev pub invariant-loop-at : goal.invariant-loop-at
invariant-loop-at l = Agrees l.cache (seen l.device.log)
