use Rattle.std.proofs.Common.{◌≡◌, ◌<◌, ℕ, None, length}
use Rattle.dinode_core.specs.Core.{core_fault, core_of}
use Rattle.geom.specs.Layout.{inode_at}
use Rattle.geom.specs.Places.{layout}
use Rattle.inode_table.specs.Cores.{free_bytes, free_core, slot_of}
use Rattle.inode_table.proofs.cores.put_inodes.Given as goal

abbrev pub invariant-loop-slot : goal.invariant-loop-slot
invariant-loop-slot l =
    (length l.bytes ≡ 4096)
    × ((s : ℕ) → s < l.slot → slot_of l.bytes s ≡ free_bytes (inode_at (layout l.geo) l.group l.block s) l.geo.uuid)
    × ((s : ℕ) → s < l.slot → core_of (slot_of l.bytes s) ≡ free_core (inode_at (layout l.geo) l.group l.block s) l.geo.uuid)
    × ((s : ℕ) → s < l.slot → core_fault (slot_of l.bytes s) (inode_at (layout l.geo) l.group l.block s) l.geo.uuid ≡ None)
