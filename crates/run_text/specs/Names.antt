-- The words of the report for kinds, units, faults, counters and owners.
use Rattle.std.specs.Prelude.{ℕ, List, codes}
use Rattle.sblock.specs.declared.block.BlockFault.{BlockFault}
use Rattle.sblock.specs.declared.block.BlockFault.TheVariants as blocks
use Rattle.sblock.specs.declared.kind.Kind.{Kind}
use Rattle.sblock.specs.declared.kind.Kind.TheVariants as kinds
use Rattle.dinode_core.specs.declared.inode.CoreFault.{CoreFault}
use Rattle.dinode_core.specs.declared.inode.CoreFault.TheVariants as cores
use Rattle.dinode_core.specs.declared.mapping.ForkFault.{ForkFault}
use Rattle.dinode_core.specs.declared.mapping.ForkFault.TheVariants as forks
use Rattle.fs_model.specs.declared.fault.Counter.{Counter}
use Rattle.fs_model.specs.declared.fault.Counter.TheVariants as counters
use Rattle.fs_model.specs.declared.unit.Unit.{Unit as ScrubUnit}
use Rattle.fs_model.specs.declared.unit.Unit.TheVariants as units

abbrev pub kind_name : Kind → List ℕ
kind_name kinds.Bno = codes "bno"
kind_name kinds.Cnt = codes "cnt"
kind_name kinds.Rmap = codes "rmap"
kind_name kinds.Refc = codes "refc"
kind_name kinds.Ino = codes "ino"
kind_name kinds.Fino = codes "fino"

abbrev pub unit_name : ScrubUnit → List ℕ
unit_name units.Inode = codes "inode"
unit_name units.Rmap = codes "rmap"
unit_name units.Free = codes "free"
unit_name units.Refc = codes "refc"

abbrev pub block_fault_name : BlockFault → List ℕ
block_fault_name blocks.Magic = codes "magic"
block_fault_name blocks.Level = codes "level"
block_fault_name blocks.Count = codes "count"
block_fault_name blocks.Sibling = codes "sibling"
block_fault_name blocks.Place = codes "place"
block_fault_name blocks.Owner = codes "owner"
block_fault_name blocks.Uuid = codes "uuid"
block_fault_name blocks.Checksum = codes "checksum"
block_fault_name blocks.Order = codes "order"
block_fault_name blocks.Key = codes "key"
block_fault_name blocks.Range = codes "range"
block_fault_name blocks.Later = codes "later"

abbrev pub core_fault_name : CoreFault → List ℕ
core_fault_name cores.Magic = codes "magic"
core_fault_name cores.Version = codes "version"
core_fault_name cores.Number = codes "number"
core_fault_name cores.Checksum = codes "checksum"
core_fault_name cores.Uuid = codes "uuid"

abbrev pub fork_fault_name : ForkFault → List ℕ
fork_fault_name forks.Format = codes "format"
fork_fault_name forks.Count = codes "count"
fork_fault_name forks.Order = codes "order"
fork_fault_name forks.Overlap = codes "overlap"
fork_fault_name forks.Range = codes "range"
fork_fault_name forks.Block = codes "block"

abbrev pub counter_name : Counter → List ℕ
counter_name counters.Count = codes "count"
counter_name counters.Freecount = codes "freecount"
counter_name counters.Iblocks = codes "iblocks"
counter_name counters.Fblocks = codes "fblocks"
counter_name counters.RmapBlocks = codes "rmap_blocks"
counter_name counters.Freeblks = codes "freeblks"
counter_name counters.Longest = codes "longest"
counter_name counters.Btreeblks = codes "btreeblks"
counter_name counters.RefcountBlocks = codes "refcount_blocks"
