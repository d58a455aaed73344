use Rattle.std.proofs.Common.{◌≡◌, length, Some}
use Rattle.blk_cache.specs.Cache.{AgreesTold}
use Rattle.blk_device.specs.Contents.{Contents}
use Rattle.blk_device.specs.Reading.{OnlyRead}
use Rattle.blk_device.specs.declared.device.Region.TheVariants.{Image}
use Rattle.geom.specs.Places.{layout}
use Rattle.core_parts.specs.Opens.Groups.{IsBegun, IsOpened}
use Rattle.core_parts.specs.Opens.Heads.{Each}
use Rattle.core_parts.proofs.opens.open.read_groups.Given as goal

-- those so far are opened
abbrev pub invariant-loop-g : goal.invariant-loop-g
invariant-loop-g g l = record {
  all : length l.groups.items ≡ l.g;
  begun : Each (IsBegun (layout l.geo)) 0 l.groups.items;
  told : (c : Contents) → g.D.Device.content l.fn.dev ≡ Some c → Each (IsOpened (layout l.geo) (c Image)) 0 l.groups.items;
  reading : OnlyRead g.D.Device l.fn.dev l.dev l.fn.steps l.steps;
  calm : g.D.Device.faults l.dev ≡ g.D.Device.faults l.fn.dev;
  agrees : AgreesTold l.cache (g.D.Device.content l.dev);
}
