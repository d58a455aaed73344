use Rattle.byte_fields.proofs.ChecksumLemmas.{after_bytes_split}
use Rattle.byte_fields.proofs.checksum.next_fours.Goals as goal

-- the four bytes and the tail are all that was left
pub loop-left-preserved : goal.loop-left-preserved
loop-left-preserved c = let e = after_bytes_split c.loop-left.rest 4 c.loop-left.left.now in cc
