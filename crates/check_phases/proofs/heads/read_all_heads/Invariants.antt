use Rattle.std.proofs.Common.{◌≡◌, ◌+◌, ◌-◌, length, Some}
use Rattle.blk_device.specs.Contents.{Contents}
use Rattle.blk_device.specs.Reading.{OnlyRead}
use Rattle.blk_device.specs.declared.device.Region.TheVariants.{Image}
use Rattle.geom.specs.Places.{layout}
use Rattle.space_check.specs.Checked.{bad_head_from}
use Rattle.check_phases.specs.Checks.{AreAccepted, AreHeads}
use Rattle.check_phases.proofs.heads.read_all_heads.Given as goal

-- the first head that is refused is that of the groups that are left
abbrev pub invariant-loop-g : goal.invariant-loop-g
invariant-loop-g g l = record {
  left : (c : Contents) → g.D.Device.content l.fn.dev ≡ Some c → bad_head_from (layout l.geo) (c Image) l.g (l.geo.agcount - l.g) ≡ bad_head_from (layout l.geo) (c Image) 0 l.geo.agcount;
  heads : (c : Contents) → g.D.Device.content l.fn.dev ≡ Some c → AreHeads (layout l.geo) (c Image) 0 l.all.items;
  accepted : AreAccepted (layout l.geo) 0 l.all.items;
  all : length l.all.items ≡ l.g;
  counted : l.steps.reads ≡ l.fn.steps.reads + l.g;
  reading : OnlyRead g.D.Device l.fn.dev l.dev l.fn.steps l.steps;
  calm : g.D.Device.faults l.dev ≡ g.D.Device.faults l.fn.dev;
}
