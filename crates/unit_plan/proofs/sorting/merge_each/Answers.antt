use Rattle.std.proofs.Common.{◌∙◌, arith}
use Rattle.std.proofs.lemmas.List.Sorted.{IsPermutation-trans}
use Rattle.unit_plan.proofs.sorting.merge_each.Goals as goal

pub loop-left-preserved : goal.loop-left-preserved
loop-left-preserved c =
    let more = c.loop-left-test.true in
    let ahead = c.how_many_before-ahead.ensures in
    record {
      within = omega (arith, more, ahead);
      long = c.exchange.ensures.long ∙ c.loop-left.invariant.long;
      kept = IsPermutation-trans c.args.pieces.now c.loop-left.pieces c.exchange.new.pieces c.loop-left.invariant.kept c.exchange.ensures.kept;
    }
