use Rattle.std.proofs.Common.{◌≡◌, ◌-◌, ◌≤◌}
use Rattle.ino_recs.specs.Chunks.{ino_form, ino_at}
use Rattle.sblock.specs.Blocks.{records_of}
use Rattle.sblock.specs.Lists.{items_from}
use Rattle.inode_scan.specs.Chunk.{first_in}
use Rattle.inode_scan.proofs.chunk.first_in_leaf.Given as goal

abbrev pub invariant-loop-i : goal.invariant-loop-i
invariant-loop-i l = (first_in l.from l.end (items_from (ino_at l.area) (l.i-end - l.i) l.i) ≡ first_in l.from l.end (records_of ino_form l.block.bytes)) × (l.i-end ≤ 252)
