use Rattle.std.proofs.Common.{arith}
use Rattle.place_cells.proofs.CellLemmas.{all_more}
use Rattle.way_check.specs.Checks.{IsCellOver}
use Rattle.way_check.proofs.node.are_cells_over.Goals as goal

pub loop-i-preserved : goal.loop-i-preserved
loop-i-preserved g c =
    let form = g.K.RecKind.form in
    let a = c.args in
    all_more (λ k. IsCellOver form a.old.now.bytes a.new.now.bytes a.at k) (λ k. IsCellOver form a.old.now.bytes a.new.now.bytes a.at k) c.loop-i.i (c.is_cell_over.ensures c.if-not-is_cell_over.false) c.loop-i.invariant (λ k lt old. old)

pub returns : goal.returns
returns g c = λ yes k lt. c.loop-i.invariant k (omega (arith, lt, c.loop-i-test.false))
