use Rattle.std.proofs.Common.{ap, sym, ◌∙◌}
use Rattle.redo_area.specs.Area.{bytes_of}
use Rattle.meta_txn.specs.Joined.{Joined, bytes_at}
use Rattle.meta_txn.proofs.txn.Txn.joined.Goals as goal

pub returns : goal.returns
returns c = sym (ap (bytes_at c.args.at) (ap bytes_of c.deref.ensures.value ∙ ap (λ (t : Joined). t.blocks) c.self.view_is)) ∙ c.copy_of.ensures
