use Rattle.std.proofs.Common.{◌+◌, ◌-◌}
use Rattle.std.proofs.lemmas.List.Sorted.{IsPermutation-put_mid}
use Rattle.unit_plan.proofs.sorting.exchange.Goals as goal

pub returns-clause-kept : goal.returns-clause-kept
returns-clause-kept c =
    let part = c.args.first + c.args.second in
    IsPermutation-put_mid c.args.from (c.args.from + part - c.args.from) c.args.pieces.now c.rotate_left.new.self c.rotate_left.ensures.permutation
