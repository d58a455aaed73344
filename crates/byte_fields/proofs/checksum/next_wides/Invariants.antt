use Rattle.std.proofs.Common.{◌≡◌, ◌%◌, length}
use Rattle.byte_fields.specs.Checksum.{after_bytes}
use Rattle.byte_fields.proofs.checksum.next_wides.Given as goal

-- what is left to go through ends at the remainder of all, and is in whole pieces
abbrev pub invariant-loop-left : goal.invariant-loop-left
invariant-loop-left l = record {
  same : after_bytes l.rest l.left ≡ after_bytes l.first l.bytes;
  whole : length l.left % 64 ≡ 0;
}

abbrev pub decreases-loop-left : goal.decreases-loop-left
decreases-loop-left l = length l.left
