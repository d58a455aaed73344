use Rattle.byte_fields.proofs.ChecksumLemmas.{after_bytes_split}
use Rattle.byte_fields.proofs.checksum.next_sixteens.Goals as goal

-- the 16 bytes and the tail are all that was left
pub loop-left-preserved : goal.loop-left-preserved
loop-left-preserved c = let e = after_bytes_split c.loop-left.rest 16 c.loop-left.left.now in cc
