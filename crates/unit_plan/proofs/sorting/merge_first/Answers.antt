use Rattle.std.proofs.Common.{arith}
use Rattle.std.proofs.lemmas.List.Sorted.{IsPermutation-trans}
use Rattle.unit_plan.proofs.sorting.merge_first.Goals as goal

pub loop-left-preserved : goal.loop-left-preserved
loop-left-preserved c =
    let some = c.min-some.ensures in
    let ahead = c.how_many_ahead-ahead.ensures in
    let turned = c.exchange.ensures.long in
    let merged = c.merge_each.ensures.long in
    record {
      within = omega (arith, some, ahead, turned, merged);
      kept = IsPermutation-trans c.args.pieces.now c.loop-left.pieces c.merge_each.new.pieces c.loop-left.invariant.kept
          (IsPermutation-trans c.loop-left.pieces c.exchange.new.pieces c.merge_each.new.pieces c.exchange.ensures.kept c.merge_each.ensures.kept);
    }
