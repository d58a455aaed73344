use Rattle.std.proofs.Common.{◌≡◌, ℕ, ◌+◌, ◌*◌, ◌≤◌, length, Some}
use Rattle.blk_device.specs.Contents.{Contents}
use Rattle.blk_device.specs.Reading.{OnlyRead}
use Rattle.blk_device.specs.declared.device.Region.TheVariants.{Image}
use Rattle.geom.specs.Places.{layout}
use Rattle.fork_pass.specs.Counted.{pieces_most}
use Rattle.fork_pass.specs.Read.{Come, left_behind}
use Rattle.fork_pass.proofs.fork.read_pieces.Given as goal

-- the pieces so far were put
abbrev pub invariant-loop-met : goal.invariant-loop-met
invariant-loop-met g l = record {
  come : (c : Contents) → g.D.Device.content l.fn.dev ≡ Some c → Come (layout l.geo) (c Image) l.core l.fork l.fn.sets l.sets l.met l.fn.steps.reads l.steps.reads;
  most : (c : Contents) → g.D.Device.content l.fn.dev ≡ Some c → l.steps.reads ≤ l.fn.steps.reads + pieces_most (layout l.geo) (c Image) l.core l.fork;
  few : (n : ℕ) → l.met.next ≡ Some n → l.met.count ≤ 512 * n;
  groups : length l.sets ≡ length l.fn.sets;
  reading : OnlyRead g.D.Device l.fn.dev l.dev l.fn.steps l.steps;
  calm : g.D.Device.faults l.dev ≡ g.D.Device.faults l.fn.dev;
}

abbrev pub decreases-loop-met : goal.decreases-loop-met
decreases-loop-met g l = left_behind l.met.next
