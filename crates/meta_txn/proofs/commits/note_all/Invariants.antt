use Rattle.std.proofs.Common.{◌≡◌, length}
use Rattle.blk_device.specs.Contents.{Contents}
use Rattle.blk_cache.specs.Cache.{Agrees, capacity_of}
use Rattle.redo_area.specs.Area.{bytes_of, put_homes}
use Rattle.meta_txn.proofs.commits.note_all.Given as goal

abbrev pub invariant-loop-number : goal.invariant-loop-number
invariant-loop-number l = record {
  agrees : (c : Contents) → Agrees l.initial.cache c → (d : Contents) × Agrees l.cache d × (put_homes (bytes_of l.rest) d ≡ put_homes (bytes_of l.batch) c);
  capacity : capacity_of l.cache ≡ capacity_of l.initial.cache;
}

abbrev pub decreases-loop-number : goal.decreases-loop-number
decreases-loop-number l = length l.rest
