use Rattle.std.proofs.Common.{◌≡◌, drop}
use Rattle.byte_fields.specs.Checksum.{after_bytes}
use Rattle.byte_fields.proofs.checksum.next_each.Given as goal

-- what is left to go through ends at the checksum of all
abbrev pub invariant-loop-byte : goal.invariant-loop-byte
invariant-loop-byte l = after_bytes l.rest (drop l.byte-index l.bytes) ≡ after_bytes l.first l.bytes
