use Rattle.std.proofs.Common.{◌≡◌, length, Some}
use Rattle.blk_device.specs.Contents.{Contents}
use Rattle.blk_device.specs.Reading.{OnlyRead}
use Rattle.blk_device.specs.declared.device.Region.TheVariants.{Image}
use Rattle.geom.specs.Places.{layout}
use Rattle.core_parts.specs.Opens.Heads.{Each, IsHeadsOf, PassBelow}
use Rattle.core_edit.specs.Stands.{AreOf}
use Rattle.core_parts.proofs.opens.heads.read_all_heads.Given as goal

-- those so far are the image's, and none of them is refused
abbrev pub invariant-loop-g : goal.invariant-loop-g
invariant-loop-g g l = record {
  all : length l.all.items ≡ l.g;
  told : (c : Contents) → g.D.Device.content l.fn.dev ≡ Some c → Each (IsHeadsOf (layout l.geo) (c Image)) 0 l.all.items;
  of_group : Each (AreOf (layout l.geo)) 0 l.all.items;
  passed : (c : Contents) → g.D.Device.content l.fn.dev ≡ Some c → PassBelow (layout l.geo) (c Image) l.g;
  reading : OnlyRead g.D.Device l.fn.dev l.dev l.fn.steps l.steps;
  calm : g.D.Device.faults l.dev ≡ g.D.Device.faults l.fn.dev;
}
