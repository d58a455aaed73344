use Rattle.std.proofs.lemmas.List.Sorted.{IsPermutation-trans}
use Rattle.unit_plan.proofs.sorting.gather.Goals as goal

pub returns : goal.returns
returns c =
    IsPermutation-trans c.args.pieces.now c.rotate_left.new.self c.merge_first.new.pieces c.rotate_left.ensures.permutation
    (IsPermutation-trans c.rotate_left.new.self c.sort_first.new.pieces c.merge_first.new.pieces c.sort_first.ensures.kept c.merge_first.ensures)
