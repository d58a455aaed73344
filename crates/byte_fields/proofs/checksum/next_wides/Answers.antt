use Rattle.std.proofs.Common.{arith}
use Rattle.byte_fields.proofs.ChecksumLemmas.{after_bytes_split, after_bytes_end}
use Rattle.byte_fields.proofs.checksum.next_wides.Goals as goal

-- the wide piece and the tail are all that was left
pub loop-left-preserved : goal.loop-left-preserved
loop-left-preserved c = record {
  same = (let e = after_bytes_split c.loop-left.rest 64 c.loop-left.left.now in cc);
  whole = omega arith;
}

-- nothing is left
pub returns : goal.returns
returns c = let e = after_bytes_end c.loop-left.rest 0 c.loop-left.left.now (omega arith) in cc
