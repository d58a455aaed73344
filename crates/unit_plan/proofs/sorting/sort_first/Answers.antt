use Rattle.std.proofs.Common.{List, subst, take, drop, ◌++◌}
use Rattle.std.specs.List.Sorted.{IsPermutation}
use Rattle.std.proofs.lemmas.List.{take-append-drop}
use Rattle.std.proofs.lemmas.List.Sorted.{IsPermutation-append_left}
use Rattle.unit_plan.specs.declared.piece.Piece.{Piece}
use Rattle.unit_plan.proofs.sorting.sort_first.Goals as goal

pub returns-clause-kept : goal.returns-clause-kept
returns-clause-kept c =
    let ps = c.args.pieces.now in
    let behind = drop c.args.count ps in
    subst (λ (qs : List Piece). IsPermutation qs (c.sort_unstable_by_key.new.self ++ behind)) (take-append-drop c.args.count ps)
    (IsPermutation-append_left behind (take c.args.count ps) c.sort_unstable_by_key.new.self c.sort_unstable_by_key.ensures.permutation)
