use Rattle.std.proofs.Common.{◌≡◌, ◌+◌, ◌≤◌, true, false, Some}
use Rattle.blk_device.specs.Contents.{Contents}
use Rattle.blk_device.specs.Reading.{OnlyRead}
use Rattle.blk_device.specs.declared.device.Region.TheVariants.{Image}
use Rattle.geom.specs.Places.{layout}
use Rattle.fork_read.specs.Answers.{AllLow, first_level, given_of}
use Rattle.fork_read.specs.Stuck.{IsBorder}
use Rattle.fork_read.specs.Walk.{Leaves, trail_of, walk_tasks}
use Rattle.fork_read.proofs.walk.walk_on.Given as goal

abbrev pub invariant-loop-i : goal.invariant-loop-i
invariant-loop-i g l = record {
  goes_on : (c : Contents) → g.D.Device.content l.fn.dev ≡ Some c → walk_tasks (layout l.geo) (c Image) l.core l.from l.fn.tasks.items (trail_of l.fn.seen) ≡ walk_tasks (layout l.geo) (c Image) l.core l.from l.tasks.items (trail_of l.seen);
  comes : (c : Contents) → g.D.Device.content l.fn.dev ≡ Some c → Leaves (layout l.geo) (c Image) l.core l.from l.fn.tasks.items (trail_of l.fn.seen) l.i l.tasks.items (trail_of l.seen);
  border : (c : Contents) → g.D.Device.content l.fn.dev ≡ Some c → l.is_border ≡ true → IsBorder (layout l.geo) (c Image) l.core l.from l.fn.tasks.items (trail_of l.fn.seen) l.i l.tasks.items (trail_of l.seen);
  falls : l.is_border ≡ false → l.i + first_level l.tasks.items ≤ 97;
  near : l.i ≤ 98;
  low : AllLow l.tasks.items;
  most : given_of l.from l.seen.mappings.items ≤ 512;
  less : l.is_border ≡ false → given_of l.from l.seen.mappings.items ≤ 261;
  reading : OnlyRead g.D.Device l.fn.dev l.dev l.fn.steps l.steps;
  calm : g.D.Device.faults l.dev ≡ g.D.Device.faults l.fn.dev;
  few : l.steps.reads ≤ l.fn.steps.reads + l.i;
}
