use Rattle.way_check.proofs.NodeLemmas.{cell_at_place, cell_elsewhere}
use Rattle.way_check.proofs.node.is_cell_over.Goals as goal

pub returns-then-i-at : goal.returns-then-i-at
returns-then-i-at g c = λ yes. cell_at_place g.K.RecKind.form g.met.K.RecKind.lawful c.args.old.now.bytes c.args.new.now.bytes c.args.at c.args.i c.if-i-at.true

pub returns : goal.returns
returns g c = λ yes. cell_elsewhere g.K.RecKind.form g.met.K.RecKind.lawful c.args.old.now.bytes c.args.new.now.bytes c.args.at c.args.i c.if-i-at.false (c.is_same_entry.ensures.child yes) (c.is_same_entry.ensures.low yes) (c.is_same_entry.ensures.high yes)
