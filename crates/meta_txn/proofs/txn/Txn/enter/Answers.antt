use Rattle.meta_txn.proofs.EnterLemmas.{all_entered, found_entered, would_be}
use Rattle.meta_txn.proofs.txn.Txn.enter.Goals as goal

pub returns-in-Ok-clause-entered : goal.returns-in-Ok-clause-entered
returns-in-Ok-clause-entered g c = found_entered c.args.at c.in-Ok.i (g.D.Device.content c.args.dev.now) c.args.self.now c.in-Ok.ensures.found

pub returns-in-Err-clause-entered : goal.returns-in-Err-clause-entered
returns-in-Err-clause-entered g c =
    all_entered c.read_in.result c.args.at (g.D.Device.content c.args.dev.now) c.args.self.now c.read_in.new.self c.in-Err.ensures.absent.none c.read_in.ensures.read

pub returns-in-Err-clause-too_many : goal.returns-in-Err-clause-too_many
returns-in-Err-clause-too_many g c = λ n. would_be c.read_in.result c.args.at n c.args.self.now.blocks c.in-Err.ensures.absent.none (c.read_in.ensures.too_many n)
