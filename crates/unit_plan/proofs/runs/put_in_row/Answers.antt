use Rattle.std.proofs.Common.{List, map, sym, subst, rules}
use Rattle.unit_plan.specs.declared.piece.Piece.{Piece}
use Rattle.unit_plan.specs.Joined.{StandInRow}
use Rattle.unit_plan.specs.Lost.{of_piece}
use Rattle.unit_plan.proofs.InOrder.{NoneBefore, in_row, sorted_by_key}
use Rattle.unit_plan.proofs.runs.put_in_row.Goals as goal

pub returns-clause-once : goal.returns-clause-once
returns-clause-once c = λ once.
    let ps = c.sort_unstable_by_key.new.self.items in
    let sorted : NoneBefore ps = sorted_by_key ps c.sort_unstable_by_key.ensures.sorted (λ a r q k. search rules) in
    c.stand_in_row-2.ensures.1
    (subst (λ (qs : List Piece). StandInRow (map of_piece qs)) (sym c.as_slice-2.ensures.value) (in_row c.args.pieces.now.items ps c.sort_unstable_by_key.ensures.permutation once sorted))
