use Rattle.blk_device.specs.Memory.{size_of}
use Rattle.blk_device.specs.Recorded.{seen}
use Rattle.blk_device.specs.declared.device.Region.TheVariants.{Image}
use Rattle.blk_cache.specs.Cache.{Agrees}
use Rattle.meta_txn.specs.Joined.{IsInside}
use Rattle.test_commits.proofs.transactions.play.Given as goal

abbrev pub invariant-loop-deed : goal.invariant-loop-deed
invariant-loop-deed g l = record {
  agreed : Agrees l.cache (seen l.dev.inner.log);
  inside : IsInside (size_of l.dev.inner Image) l.txn;
}
