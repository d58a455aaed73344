use Rattle.std.proofs.Common.{length, ap, arith}
use Rattle.meta_txn.specs.Joined.{Joined}
use Rattle.meta_txn.proofs.BatchLemmas.{is_batch}
use Rattle.meta_txn.proofs.ListLemmas.{length_bytes_of}
use Rattle.meta_txn.proofs.txn.Txn.len.Goals as goal

pub returns-clause-count : goal.returns-clause-count
returns-clause-count c = omega (arith, c.len.ensures, ap (λ (t : Joined). length t.blocks) c.self.view_is, length_bytes_of c.self.inside.blocks.items, c.self.inside.blocks.ok.0)

pub returns-clause-few : goal.returns-clause-few
returns-clause-few c = omega (arith, c.self.invariant.0.few, ap (λ (t : Joined). length t.blocks) c.self.view_is, length_bytes_of c.self.inside.blocks.items, c.self.inside.blocks.ok.0)

pub returns-clause-batch : goal.returns-clause-batch
returns-clause-batch c = is_batch c.self.inside.blocks.items c.args.self.now.blocks (ap (λ (t : Joined). t.blocks) c.self.view_is) (omega (arith, c.self.invariant.0.few, c.self.inside.blocks.ok.0)) c.self.invariant.0.rise

pub returns-clause-marked : goal.returns-clause-marked
returns-clause-marked c = is_batch c.self.inside.marked.items c.args.self.now.marked (ap (λ (t : Joined). t.marked) c.self.view_is) (omega (arith, c.self.invariant.1.few, c.self.inside.marked.ok.0)) c.self.invariant.1.rise
