use Rattle.std.proofs.Common.{arith}
use Rattle.dinode_core.proofs.EncodedLemmas.{written_back}
use Rattle.dinode_core.proofs.encode.writes_back.Goals as goal

pub returns : goal.returns
returns c = written_back c.args.bytes.now c.args.ino c.args.uuid.now c.requires.long (λ k. omega (arith, c.type_inv.bytes k)) c.requires.sound
