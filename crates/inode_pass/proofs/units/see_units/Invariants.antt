use Rattle.std.proofs.Common.{◌≡◌, ◌+◌, ◌*◌, ◌≤◌, ◌++◌, Some, drop}
use Rattle.blk_device.specs.Contents.{Contents}
use Rattle.blk_device.specs.Reading.{OnlyRead}
use Rattle.blk_device.specs.declared.device.Region.TheVariants.{Image}
use Rattle.geom.specs.Places.{layout}
use Rattle.inode_pass.specs.Notes.{AreFit, notes_of}
use Rattle.inode_pass.specs.Units.{AreSeen, unit_count, unit_numbers, units_in}
use Rattle.inode_pass.proofs.units.see_units.Given as goal

-- the runs so far were seen, and those that are left follow
abbrev pub invariant-loop-run : goal.invariant-loop-run
invariant-loop-run g l = record {
  told : (c : Contents) → g.D.Device.content l.fn.dev ≡ Some c → AreSeen (layout l.geo) (c Image) l.g l.seen.items;
  units : unit_numbers l.seen.items ++ units_in (drop l.run-index l.units) ≡ units_in l.units;
  noted : (c : Contents) → g.D.Device.content l.fn.dev ≡ Some c → l.notes.items ++ notes_of (layout l.geo) (c Image) l.g (units_in (drop l.run-index l.units)) ≡ l.fn.notes.items ++ notes_of (layout l.geo) (c Image) l.g (units_in l.units);
  fit : AreFit (layout l.geo) l.g l.fn.notes.items → AreFit (layout l.geo) l.g l.notes.items;
  reading : OnlyRead g.D.Device l.fn.dev l.dev l.fn.steps l.steps;
  calm : g.D.Device.faults l.dev ≡ g.D.Device.faults l.fn.dev;
  few : l.steps.reads + 8 * unit_count (drop l.run-index l.units) ≤ l.fn.steps.reads + 8 * unit_count l.units;
}
