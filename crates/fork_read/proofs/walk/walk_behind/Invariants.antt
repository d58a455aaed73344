use Rattle.std.proofs.Common.{◌≡◌, ◌+◌, ◌≤◌, ◌<◌, ◌∷◌, Some}
use Rattle.blk_device.specs.Contents.{Contents}
use Rattle.blk_device.specs.Reading.{OnlyRead}
use Rattle.blk_device.specs.declared.device.Region.TheVariants.{Image}
use Rattle.geom.specs.Places.{layout}
use Rattle.fork_read.specs.Answers.{AllLow}
use Rattle.fork_read.specs.Walk.{Leaves, trail_of, walk_tasks}
use Rattle.fork_read.proofs.walk.walk_behind.Given as goal

abbrev pub invariant-loop-i : goal.invariant-loop-i
invariant-loop-i g l = record {
  goes_on : (c : Contents) → g.D.Device.content l.fn.dev ≡ Some c → walk_tasks (layout l.geo) (c Image) l.core l.from (l.fn.first ∷ l.fn.tasks.items) (trail_of l.fn.seen) ≡ walk_tasks (layout l.geo) (c Image) l.core l.from (l.task ∷ l.tasks.items) (trail_of l.seen);
  comes : (c : Contents) → g.D.Device.content l.fn.dev ≡ Some c → Leaves (layout l.geo) (c Image) l.core l.from (l.fn.first ∷ l.fn.tasks.items) (trail_of l.fn.seen) l.i (l.task ∷ l.tasks.items) (trail_of l.seen);
  here : l.task.level < 9;
  low : AllLow l.tasks.items;
  reading : OnlyRead g.D.Device l.fn.dev l.dev l.fn.steps l.steps;
  calm : g.D.Device.faults l.dev ≡ g.D.Device.faults l.fn.dev;
  few : l.steps.reads ≤ l.fn.steps.reads + l.i;
}
