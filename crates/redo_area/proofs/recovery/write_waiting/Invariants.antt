use Rattle.std.proofs.Common.{◌≡◌, ◌≤◌, ◌+◌, ◌*◌, ℕ, true, drop}
use Rattle.blk_device.specs.Contents.{map_told}
use Rattle.blk_device.specs.Reading.{Keeps}
use Rattle.blk_device.specs.declared.device.Region.TheVariants.{Image}
use Rattle.redo_area.specs.Area.{put_waiting, AllButHomes, Misses}
use Rattle.redo_area.specs.Counts.{raised}
use Rattle.redo_area.specs.Table.{numbers, rises, table_count, table_numbers}
use Rattle.redo_area.proofs.recovery.write_waiting.Given as goal

abbrev pub invariant-loop-left : goal.invariant-loop-left
invariant-loop-left g l = record {
  room : l.at + 8 * l.left ≡ 16 + 8 * table_count l.table.bytes;
  count : l.place + l.left ≡ 2 + table_count l.table.bytes;
  rise : (least : ℕ) × (rises least (g.D.Device.blocks l.initial.dev Image) (numbers l.left (drop l.at l.table.bytes)) ≡ true);
  among : (b : ℕ) → Misses (table_numbers l.table.bytes) b → Misses (numbers l.left (drop l.at l.table.bytes)) b;
  content : map_told (put_waiting (numbers l.left (drop l.at l.table.bytes)) l.place) (g.D.Device.content l.dev) ≡ map_told (put_waiting (table_numbers l.table.bytes) 2) (g.D.Device.content l.initial.dev);
  moments : Keeps g.D.Device (AllButHomes (table_numbers l.table.bytes)) l.initial.dev l.dev;
  sizes : g.D.Device.blocks l.dev ≡ g.D.Device.blocks l.initial.dev;
  faults : g.D.Device.faults l.dev ≡ g.D.Device.faults l.initial.dev;
  reads : (k : ℕ) × (k + 2 ≤ l.place) × (g.D.Device.reads l.dev ≡ raised (g.D.Device.reads l.initial.dev) k);
}

abbrev pub decreases-loop-left : goal.decreases-loop-left
decreases-loop-left g l = l.left
