use Rattle.std.proofs.Common.{◌≡◌, ◌≤◌, ◌^◌, ◌++◌, ◌+◌, ℕ, List, length}
use Rattle.blk_cache.specs.Cache.{AgreesTold}
use Rattle.blk_device.specs.Reading.{OnlyRead}
use Rattle.blk_device.specs.declared.device.Region.TheVariants.{Image}
use Rattle.join_blocks.specs.Joins.{with_all, count_of, placed_in, LieBelow, OnlyThese, ReadsNew}
use Rattle.tree_defs.specs.Lists.{In}
use Rattle.redo_area.specs.declared.TheConstants.{MAX_BATCH}
use Rattle.join_blocks.proofs.join.join_put.Given as goal

abbrev pub invariant-loop-block : goal.invariant-loop-block
invariant-loop-block g l = record {
  inside : LieBelow (g.D.Device.blocks l.initial.dev Image) l.first (placed_in l.rest);
  fits : LieBelow (2 ^ 64) l.first (placed_in l.rest);
  room : count_of l.txn.blocks l.first (placed_in l.rest) ≤ MAX_BATCH;
  put : with_all l.first l.rest l.txn.blocks ≡ with_all l.first l.placed l.initial.txn.blocks;
  count : (bs : List ℕ) → count_of l.txn.blocks l.first (placed_in l.rest ++ bs) ≡ count_of l.initial.txn.blocks l.first (placed_in l.placed ++ bs);
  among : (b : ℕ) → In b (placed_in l.rest) → In b (placed_in l.placed);
  others : OnlyThese l.first (placed_in l.placed) l.initial.txn.blocks l.txn.blocks;
  ticks : ReadsNew l.initial.steps l.steps l.initial.txn.blocks l.txn.blocks;
  few : l.steps.reads + length l.rest ≤ l.initial.steps.reads + length l.placed;
  marked : l.txn.marked ≡ l.initial.txn.marked;
  reading : OnlyRead g.D.Device l.initial.dev l.dev l.initial.steps l.steps;
  calm : g.D.Device.faults l.dev ≡ g.D.Device.faults l.initial.dev;
  agrees : AgreesTold l.cache (g.D.Device.content l.dev);
}

abbrev pub decreases-loop-block : goal.decreases-loop-block
decreases-loop-block g l = length l.rest
