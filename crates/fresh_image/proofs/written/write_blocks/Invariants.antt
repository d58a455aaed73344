use Rattle.std.proofs.Common.{◌≡◌, ◌*◌, ◌≤◌}
use Rattle.blk_device.specs.Contents.{map_told}
use Rattle.blk_device.specs.Reading.{Keeps}
use Rattle.fresh_image.specs.Written.{put_fresh, AllButFresh}
use Rattle.fresh_image.proofs.written.write_blocks.Given as goal

abbrev pub invariant-loop-at : goal.invariant-loop-at
invariant-loop-at g l = record {
  content : g.D.Device.content l.dev ≡ map_told (put_fresh l.n l.len l.at) (g.D.Device.content l.initial.dev);
  moments : Keeps g.D.Device (AllButFresh l.n l.len) l.initial.dev l.dev;
  sizes : g.D.Device.blocks l.dev ≡ g.D.Device.blocks l.initial.dev;
  faults : g.D.Device.faults l.dev ≡ g.D.Device.faults l.initial.dev;
  reads : g.D.Device.reads l.dev ≡ g.D.Device.reads l.initial.dev;
}
