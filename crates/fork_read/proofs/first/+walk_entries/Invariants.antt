use Rattle.std.proofs.Common.{◌≡◌, ◌+◌, ◌≤◌, length, Some}
use Rattle.blk_device.specs.Contents.{Contents}
use Rattle.blk_device.specs.Reading.{OnlyRead}
use Rattle.blk_device.specs.declared.device.Region.TheVariants.{Image}
use Rattle.geom.specs.Places.{layout}
use Rattle.fork_read.specs.First.{entries_in, walk_below}
use Rattle.fork_read.specs.Walk.{trail_of}
use Rattle.fork_read.proofs.EachLemmas.{left_in}
use Rattle.fork_read.proofs.first.+walk_entries.Given as goal

abbrev pub decreases-walk_entries : goal.decreases-walk_entries
decreases-walk_entries g l = l.level

abbrev pub invariant-loop-i : goal.invariant-loop-i
invariant-loop-i g l = record {
  all : l.i-end ≡ l.table.count;
  goes_on : (c : Contents) → g.D.Device.content l.fn.dev ≡ Some c → walk_below (layout l.geo) (c Image) l.core l.level (left_in l.table l.i l.bytes) (trail_of l.seen) ≡ walk_below (layout l.geo) (c Image) l.core l.level (entries_in l.table l.bytes) (trail_of l.fn.seen);
  each : (c : Contents) → g.D.Device.content l.fn.dev ≡ Some c → l.steps.reads + length (trail_of l.fn.seen).blocks ≤ l.fn.steps.reads + length (trail_of l.seen).blocks;
  reading : OnlyRead g.D.Device l.fn.dev l.dev l.fn.steps l.steps;
  calm : g.D.Device.faults l.dev ≡ g.D.Device.faults l.fn.dev;
}
