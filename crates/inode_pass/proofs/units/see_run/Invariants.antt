use Rattle.std.proofs.Common.{◌≡◌, ◌+◌, ◌*◌, ◌≤◌, ◌++◌, Some}
use Rattle.blk_device.specs.Contents.{Contents}
use Rattle.blk_device.specs.Reading.{OnlyRead}
use Rattle.blk_device.specs.declared.device.Region.TheVariants.{Image}
use Rattle.fs_state.specs.Lists.{numbers}
use Rattle.geom.specs.Places.{layout}
use Rattle.inode_pass.specs.Notes.{AreFit, notes_of}
use Rattle.inode_pass.specs.Units.{AreSeen, unit_numbers}
use Rattle.inode_pass.proofs.units.see_run.Given as goal

-- the units so far were seen
abbrev pub invariant-loop-i : goal.invariant-loop-i
invariant-loop-i g l = record {
  told : (c : Contents) → g.D.Device.content l.fn.dev ≡ Some c → AreSeen (layout l.geo) (c Image) l.g l.fn.seen.items → AreSeen (layout l.geo) (c Image) l.g l.seen.items;
  units : unit_numbers l.seen.items ≡ unit_numbers l.fn.seen.items ++ numbers l.run.start l.i;
  noted : (c : Contents) → g.D.Device.content l.fn.dev ≡ Some c → l.notes.items ≡ l.fn.notes.items ++ notes_of (layout l.geo) (c Image) l.g (numbers l.run.start l.i);
  fit : AreFit (layout l.geo) l.g l.fn.notes.items → AreFit (layout l.geo) l.g l.notes.items;
  reading : OnlyRead g.D.Device l.fn.dev l.dev l.fn.steps l.steps;
  calm : g.D.Device.faults l.dev ≡ g.D.Device.faults l.fn.dev;
  few : l.steps.reads ≤ l.fn.steps.reads + 8 * l.i;
}
