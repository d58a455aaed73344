use Rattle.std.proofs.Common.{arith}
use Rattle.byte_fields.proofs.ChecksumLemmas.{after_bytes_split, after_bytes_end}
use Rattle.byte_fields.proofs.checksum.next_broads.Goals as goal

-- the broad piece and the tail are all that was left
pub loop-left-preserved : goal.loop-left-preserved
loop-left-preserved c = record {
  same = (let e = after_bytes_split c.loop-left.rest 128 c.loop-left.left.now in cc);
  whole = omega arith;
}

-- nothing is left
pub returns : goal.returns
returns c = let e = after_bytes_end c.loop-left.rest 0 c.loop-left.left.now (omega arith) in cc
