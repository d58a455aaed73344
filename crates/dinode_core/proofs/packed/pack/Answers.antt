use Rattle.dinode_core.proofs.PackedLemmas.{unpacks_bytes}
use Rattle.dinode_core.proofs.packed.pack.Goals as goal

pub returns-clause-again : goal.returns-clause-again
returns-clause-again c = unpacks_bytes c.args.m.now c.bytes_of.result c.bits_in.result c.requires c.bits_in.ensures c.bytes_of.ensures
