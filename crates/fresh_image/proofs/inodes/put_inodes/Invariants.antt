use Rattle.std.proofs.Common.{◌≡◌, length}
use Rattle.fresh_image.specs.Fresh.{with_inodes}
use Rattle.fresh_image.proofs.inodes.put_inodes.Given as goal

abbrev pub invariant-loop-slot : goal.invariant-loop-slot
invariant-loop-slot l = (length l.bytes ≡ 4096) × (l.bytes ≡ with_inodes l.slot l.first l.initial.bytes)
