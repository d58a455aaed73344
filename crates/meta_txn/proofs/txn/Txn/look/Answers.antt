use Rattle.std.proofs.Common.{◌^◌, ℕ, List, ◌∙◌, ap}
use Rattle.byte_fields.specs.declared.block.Block.{Block}
use Rattle.redo_area.specs.Area.{bytes_of}
use Rattle.redo_area.specs.Table.{places, rises}
use Rattle.meta_txn.specs.Joined.{Joined}
use Rattle.meta_txn.proofs.ListLemmas.{look_absent, look_found}
use Rattle.meta_txn.proofs.txn.Txn.look.Goals as goal

pub returns-clause-found : goal.returns-clause-found
returns-clause-found c =
    look_found (2 ^ 64) c.args.at c.deref.result.now c.args.self.now.blocks (ap bytes_of c.deref.ensures.value ∙ ap (λ (t : Joined). t.blocks) c.self.view_is)
    (ap (λ (xs : List (ℕ × Block)). rises 0 (2 ^ 64) (places xs)) c.deref.ensures.value ∙ c.self.invariant.0.rise) c.find.result c.find.ensures

pub returns-clause-absent : goal.returns-clause-absent
returns-clause-absent c =
    look_absent (2 ^ 64) c.args.at c.deref.result.now c.args.self.now.blocks (ap bytes_of c.deref.ensures.value ∙ ap (λ (t : Joined). t.blocks) c.self.view_is)
    (ap (λ (xs : List (ℕ × Block)). rises 0 (2 ^ 64) (places xs)) c.deref.ensures.value ∙ c.self.invariant.0.rise) c.find.result c.find.ensures
