use Rattle.std.proofs.Common.{◌+◌, ◌-◌, ◌/◌, sym, ◌∙◌, arith}
use Rattle.unit_plan.proofs.JoinLemmas.{before_to, others_from}
use Rattle.unit_plan.proofs.runs.place_between.Goals as goal

pub loop-low-preserved-then-is_before : goal.loop-low-preserved-then-is_before
loop-low-preserved-then-is_before c =
    let test = c.loop-low-test.true in
    let within = c.loop-low.invariant.within in
    record {
      order = omega (arith, test);
      within = within;
      before = before_to c.args.pieces.now c.args.next.now c.requires.sorted (c.loop-low.low + (c.loop-low.high - c.loop-low.low) / 2) (omega (arith, test, within)) (sym c.is_before.ensures ∙ c.if-is_before.true);
      others = c.loop-low.invariant.others;
    }

pub loop-low-preserved : goal.loop-low-preserved
loop-low-preserved c =
    let test = c.loop-low-test.true in
    let within = c.loop-low.invariant.within in
    record {
      order = omega arith;
      within = omega (arith, test, within);
      before = c.loop-low.invariant.before;
      others = others_from c.args.pieces.now c.args.next.now c.requires.sorted (c.loop-low.low + (c.loop-low.high - c.loop-low.low) / 2) (omega (arith, test, within)) (sym c.is_before.ensures ∙ c.if-is_before.false);
    }
