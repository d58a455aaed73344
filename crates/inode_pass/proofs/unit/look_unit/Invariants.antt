use Rattle.std.proofs.Common.{◌≡◌, ◌+◌, ◌*◌, ◌++◌, Some, length}
use Rattle.blk_device.specs.Contents.{Contents}
use Rattle.blk_device.specs.Reading.{OnlyRead}
use Rattle.blk_device.specs.declared.device.Region.TheVariants.{Image}
use Rattle.geom.specs.Places.{layout}
use Rattle.inode_pass.specs.Cores.{blocks_looks}
use Rattle.inode_pass.specs.Notes.{AreFit, blocks_notes}
use Rattle.inode_pass.proofs.unit.look_unit.Given as goal

-- the blocks so far were read
abbrev pub invariant-loop-j : goal.invariant-loop-j
invariant-loop-j g l = record {
  told : (c : Contents) → g.D.Device.content l.fn.dev ≡ Some c → l.looks.items ≡ blocks_looks (layout l.geo) (c Image) l.g (8 * l.unit) l.j;
  noted : (c : Contents) → g.D.Device.content l.fn.dev ≡ Some c → l.notes.items ≡ l.fn.notes.items ++ blocks_notes (layout l.geo) (c Image) l.g (8 * l.unit) l.j;
  fit : AreFit (layout l.geo) l.g l.fn.notes.items → AreFit (layout l.geo) l.g l.notes.items;
  counted : length l.looks.items ≡ 8 * l.j;
  reading : OnlyRead g.D.Device l.fn.dev l.dev l.fn.steps l.steps;
  calm : g.D.Device.faults l.dev ≡ g.D.Device.faults l.fn.dev;
  few : l.steps.reads ≡ l.fn.steps.reads + l.j;
}
