use Rattle.meta_txn.proofs.BatchLemmas.{finds_joined, finds_read}
use Rattle.meta_txn.proofs.txn.Txn.peek.Goals as goal

pub returns-in-Some-clause-bytes : goal.returns-in-Some-clause-bytes
returns-in-Some-clause-bytes g c = finds_joined c.args.at c.args.self.now.blocks (g.D.Device.content c.args.dev.now) c.in-Some.block.bytes c.in-Some.ensures

pub returns-in-None-clause-bytes : goal.returns-in-None-clause-bytes
returns-in-None-clause-bytes g c = finds_read c.load.result c.args.at c.args.self.now.blocks (g.D.Device.content c.args.dev.now) c.in-None.ensures c.load.ensures.bytes
