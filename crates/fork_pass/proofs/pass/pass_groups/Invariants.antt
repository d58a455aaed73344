use Rattle.std.proofs.Common.{◌≡◌, ℕ, ◌+◌, ◌-◌, ◌≤◌, length, Some}
use Rattle.blk_device.specs.Contents.{Contents}
use Rattle.blk_device.specs.Reading.{OnlyRead}
use Rattle.blk_device.specs.declared.device.Region.TheVariants.{Image}
use Rattle.geom.specs.Places.{layout}
use Rattle.inode_pass.specs.Units.{opened_state}
use Rattle.fork_pass.specs.Counted.{forks_most}
use Rattle.fork_pass.proofs.CountLemmas.{groups_from}
use Rattle.fork_pass.specs.Passed.{AreChunks, AreNotes, InodesLeft, inodes_from, notes_at, units_at}
use Rattle.fork_pass.proofs.pass.pass_groups.Given as goal

-- the inodes so far are passed, and the notes of the other groups are still there
abbrev pub invariant-loop-g : goal.invariant-loop-g
invariant-loop-g g l = record {
  left : (c : Contents) → g.D.Device.content l.fn.dev ≡ Some c → AreChunks (opened_state (layout l.geo) (c Image)) l.fn.inodes → AreNotes (layout l.geo) (c Image) l.fn.inodes → InodesLeft (opened_state (layout l.geo) (c Image)) (inodes_from (layout l.geo) l.fn.inodes 0 l.geo.agcount) (inodes_from (layout l.geo) l.fn.inodes l.g (l.geo.agcount - l.g)) l.fn.sets l.sets;
  each : (c : Contents) → g.D.Device.content l.fn.dev ≡ Some c → l.steps.reads + groups_from (layout l.geo) (c Image) (notes_at l.fn.inodes) l.g ≤ l.fn.steps.reads + forks_most (layout l.geo) (c Image) (notes_at l.fn.inodes);
  others : (h : ℕ) → l.g ≤ h → notes_at l.inodes h ≡ notes_at l.fn.inodes h;
  units : units_at l.inodes ≡ units_at l.fn.inodes;
  all : length l.inodes ≡ length l.fn.inodes;
  groups : length l.sets ≡ length l.fn.sets;
  reading : OnlyRead g.D.Device l.fn.dev l.dev l.fn.steps l.steps;
  calm : g.D.Device.faults l.dev ≡ g.D.Device.faults l.fn.dev;
}
