use Rattle.std.proofs.Common.{◌≡◌, ℕ, true, length}
use Rattle.blk_device.specs.Contents.{map_told}
use Rattle.blk_device.specs.Reading.{Keeps}
use Rattle.blk_device.specs.declared.device.Region.TheVariants.{Image}
use Rattle.redo_area.specs.Area.{put_homes, homes_of, bytes_of, AllButHomes, Misses}
use Rattle.redo_area.specs.Table.{places, rises}
use Rattle.redo_area.proofs.area.write_homes.Given as goal

abbrev pub invariant-loop-number : goal.invariant-loop-number
invariant-loop-number g l = record {
  rise : (least : ℕ) × (rises least (g.D.Device.blocks l.initial.dev Image) (places l.rest) ≡ true);
  among : (b : ℕ) → Misses (homes_of (bytes_of l.batch)) b → Misses (homes_of (bytes_of l.rest)) b;
  content : map_told (put_homes (bytes_of l.rest)) (g.D.Device.content l.dev) ≡ map_told (put_homes (bytes_of l.batch)) (g.D.Device.content l.initial.dev);
  moments : Keeps g.D.Device (AllButHomes (homes_of (bytes_of l.batch))) l.initial.dev l.dev;
  sizes : g.D.Device.blocks l.dev ≡ g.D.Device.blocks l.initial.dev;
  faults : g.D.Device.faults l.dev ≡ g.D.Device.faults l.initial.dev;
  reads : g.D.Device.reads l.dev ≡ g.D.Device.reads l.initial.dev;
}

abbrev pub decreases-loop-number : goal.decreases-loop-number
decreases-loop-number g l = length l.rest
