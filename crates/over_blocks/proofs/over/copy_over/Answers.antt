use Rattle.std.proofs.Common.{◌≤◌, length, ap, sym, ◌∙◌, arith}
use Rattle.over_blocks.proofs.OverLemmas.{over_at, over_is, all_gone}
use Rattle.over_blocks.proofs.over.copy_over.Goals as goal

pub returns : goal.returns
returns c = record {
  last = λ m is.
      let past : length c.args.placed.now ≤ c.loop-number.number-index = omega arith in
      sym (over_is c.args.placed.now m c.args.p ∙ (ap (over_at c.args.placed.now c.args.p) (sym is) ∙ (c.loop-number.invariant ∙ all_gone c.args.placed.now c.loop-number.number-index c.args.p c.loop-number.into.bytes past)));
}
