use Rattle.std.proofs.Common.{◌≡◌, take, replicate}
use Rattle.byte_fields.proofs.checksum.is_empty.Given as goal

-- while no bit was met, all bytes so far are zero
abbrev pub invariant-loop-byte : goal.invariant-loop-byte
invariant-loop-byte l = l.any ≡ 0 → take l.byte-index l.bytes ≡ replicate l.byte-index 0
