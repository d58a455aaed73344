use Rattle.std.proofs.Common.{◌≡◌, ◌-◌}
use Rattle.inode_scan.specs.Chunk.{first_slot, first_of}
use Rattle.inode_scan.proofs.chunk.first_of.Given as goal

abbrev pub invariant-loop-slot : goal.invariant-loop-slot
invariant-loop-slot l = first_slot l.from l.end l.rec (64 - l.slot) l.slot ≡ first_of l.from l.end l.rec
