use Rattle.std.proofs.Common.{◌≡◌, ℕ, Bool, length}
use Rattle.blk_cache.specs.Cache.{Agrees}
use Rattle.blk_device.specs.Contents.{Becomes, Contents, map_told}
use Rattle.blk_device.specs.Reading.{Keeps}
use Rattle.blk_device.specs.declared.device.Region.{Region}
use Rattle.blk_device.specs.declared.device.Region.TheVariants.{Image}
use Rattle.core_units.specs.Staged.{AreOut, IsKept, KeepsBytes, LieOn, with_blocks}
use Rattle.core_units.proofs.stage.write_all.Given as goal

abbrev pub invariant-loop-block : goal.invariant-loop-block
invariant-loop-block g l = record {
  inside : LieOn l.first (g.D.Device.blocks l.initial.dev Image) l.rest;
  content : map_told (with_blocks l.first l.rest) (g.D.Device.content l.dev) ≡ map_told (with_blocks l.first l.placed) (g.D.Device.content l.initial.dev);
  out : (keep : Region → ℕ → Bool) → AreOut l.first keep l.placed → AreOut l.first keep l.rest;
  moments : (keep : Region → ℕ → Bool) → AreOut l.first keep l.placed → Keeps g.D.Device (IsKept keep) l.initial.dev l.dev;
  kept : (keep : Region → ℕ → Bool) → AreOut l.first keep l.placed → Becomes (g.D.Device.content l.initial.dev) (g.D.Device.content l.dev) (KeepsBytes keep);
  agrees : (c : Contents) → Agrees l.initial.cache c → (d : Contents) × Agrees l.cache d × (with_blocks l.first l.rest d ≡ with_blocks l.first l.placed c);
  sizes : g.D.Device.blocks l.dev ≡ g.D.Device.blocks l.initial.dev;
  faults : g.D.Device.faults l.dev ≡ g.D.Device.faults l.initial.dev;
  reads : g.D.Device.reads l.dev ≡ g.D.Device.reads l.initial.dev;
}

abbrev pub decreases-loop-block : goal.decreases-loop-block
decreases-loop-block g l = length l.rest
