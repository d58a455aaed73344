use Rattle.byte_fields.proofs.ChecksumLemmas.{after_bytes_split}
use Rattle.byte_fields.proofs.checksum.next_few.Goals as goal

-- the eight bytes and the tail are all
pub returns : goal.returns
returns c = let e = after_bytes_split c.args.first 8 c.args.bytes.now in cc
