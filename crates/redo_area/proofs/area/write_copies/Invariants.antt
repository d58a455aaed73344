use Rattle.std.proofs.Common.{◌≡◌, ◌<◌, ◌+◌, length}
use Rattle.blk_device.specs.Contents.{map_told}
use Rattle.blk_device.specs.Reading.{Keeps}
use Rattle.redo_area.specs.Area.{put_copies, BehindGate}
use Rattle.redo_area.proofs.area.write_copies.Given as goal

abbrev pub invariant-loop-block : goal.invariant-loop-block
invariant-loop-block g l = record {
  count : length l.rest + l.at ≡ length l.batch + 2;
  behind : 0 < l.at;
  content : map_told (put_copies l.rest l.at) (g.D.Device.content l.dev) ≡ map_told (put_copies l.batch 2) (g.D.Device.content l.initial.dev);
  moments : Keeps g.D.Device BehindGate l.initial.dev l.dev;
  sizes : g.D.Device.blocks l.dev ≡ g.D.Device.blocks l.initial.dev;
  faults : g.D.Device.faults l.dev ≡ g.D.Device.faults l.initial.dev;
  reads : g.D.Device.reads l.dev ≡ g.D.Device.reads l.initial.dev;
}

abbrev pub decreases-loop-block : goal.decreases-loop-block
decreases-loop-block g l = length l.rest
