use Rattle.std.proofs.Common.{◌≡◌, ◌+◌, ◌-◌, ◌/◌, ◌≤◌, true, length, map, Some}
use Rattle.blk_device.specs.Contents.{Contents}
use Rattle.blk_device.specs.Reading.{OnlyRead}
use Rattle.blk_device.specs.declared.device.Region.TheVariants.{Image}
use Rattle.fs_state.specs.Lists.{numbers}
use Rattle.fs_state.specs.Apart.{is_chunk}
use Rattle.geom.specs.Layout.{inode_at}
use Rattle.geom.specs.Places.{layout}
use Rattle.inode_pass.specs.Units.{opened_state}
use Rattle.fork_pass.specs.Counted.{block_most}
use Rattle.fork_pass.proofs.CountLemmas.{slots_from}
use Rattle.fork_pass.specs.Passed.{InodesLeft, block_inodes}
use Rattle.fork_pass.proofs.block.pass_block.Given as goal

-- the inodes so far are passed
abbrev pub invariant-loop-slot : goal.invariant-loop-slot
invariant-loop-slot g l = record {
  left : (c : Contents) → g.D.Device.content l.fn.dev ≡ Some c → is_chunk (opened_state (layout l.geo) (c Image)) l.g (l.b / 8) ≡ true → InodesLeft (opened_state (layout l.geo) (c Image)) (block_inodes (layout l.geo) l.g l.b) (map (inode_at (layout l.geo) l.g l.b) (numbers l.slot (8 - l.slot))) l.fn.sets l.sets;
  each : (c : Contents) → g.D.Device.content l.fn.dev ≡ Some c → l.steps.reads + slots_from (layout l.geo) (c Image) l.g l.b l.slot ≤ l.fn.steps.reads + block_most (layout l.geo) (c Image) l.g l.b;
  groups : length l.sets ≡ length l.fn.sets;
  reading : OnlyRead g.D.Device l.fn.dev l.dev l.fn.steps l.steps;
  calm : g.D.Device.faults l.dev ≡ g.D.Device.faults l.fn.dev;
}
