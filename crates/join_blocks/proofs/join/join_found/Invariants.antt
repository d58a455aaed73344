use Rattle.std.proofs.Common.{◌≡◌, ◌≤◌, ◌^◌, ◌+◌, ◌++◌, ℕ, List, length}
use Rattle.blk_cache.specs.Cache.{AgreesTold}
use Rattle.blk_device.specs.Reading.{OnlyRead}
use Rattle.blk_device.specs.declared.device.Region.TheVariants.{Image}
use Rattle.redo_area.specs.Area.{Batch}
use Rattle.tree_defs.specs.Lists.{In}
use Rattle.join_blocks.specs.Joins.{count_of, LieBelow, AreFound, OnlyThese, ReadsNew}
use Rattle.redo_area.specs.declared.TheConstants.{MAX_BATCH}
use Rattle.join_blocks.proofs.join.join_found.Given as goal

abbrev pub invariant-loop-block : goal.invariant-loop-block
invariant-loop-block g l = record {
  inside : LieBelow (g.D.Device.blocks l.initial.dev Image) l.first l.rest;
  fits : LieBelow (2 ^ 64) l.first l.rest;
  room : count_of l.txn.blocks l.first l.rest ≤ MAX_BATCH;
  found : (new : Batch) → AreFound (g.D.Device.content l.initial.dev) l.first l.rest l.txn.blocks new → AreFound (g.D.Device.content l.initial.dev) l.first l.blocks l.initial.txn.blocks new;
  count : (bs : List ℕ) → count_of l.txn.blocks l.first (l.rest ++ bs) ≡ count_of l.initial.txn.blocks l.first (l.blocks ++ bs);
  among : (b : ℕ) → In b l.rest → In b l.blocks;
  others : OnlyThese l.first l.blocks l.initial.txn.blocks l.txn.blocks;
  ticks : ReadsNew l.initial.steps l.steps l.initial.txn.blocks l.txn.blocks;
  few : l.steps.reads + length l.rest ≤ l.initial.steps.reads + length l.blocks;
  marked : l.txn.marked ≡ l.initial.txn.marked;
  reading : OnlyRead g.D.Device l.initial.dev l.dev l.initial.steps l.steps;
  calm : g.D.Device.faults l.dev ≡ g.D.Device.faults l.initial.dev;
  agrees : AgreesTold l.cache (g.D.Device.content l.dev);
}

abbrev pub decreases-loop-block : goal.decreases-loop-block
decreases-loop-block g l = length l.rest
