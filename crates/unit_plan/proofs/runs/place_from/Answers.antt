use Rattle.std.proofs.Common.{◌+◌, ◌-◌, sym, ◌∙◌, arith}
use Rattle.unit_plan.proofs.JoinLemmas.{before_to, others_from}
use Rattle.unit_plan.proofs.runs.place_from.Goals as goal

pub place_between-requires-clause-others : goal.place_between-requires-clause-others
place_between-requires-clause-others c =
    let room = c.loop-stride-test.true in
    let some = c.loop-stride.invariant.some in
    others_from c.args.pieces.now c.args.next.now c.requires.sorted (c.loop-stride.low + c.loop-stride.stride - 1) (omega (arith, room, some)) (sym c.is_before.ensures ∙ c.if-not-is_before.true)

pub loop-stride-preserved : goal.loop-stride-preserved
loop-stride-preserved c =
    let room = c.loop-stride-test.true in
    let some = c.loop-stride.invariant.some in
    let on = c.loop-stride.invariant.on in
    record {
      on = omega (arith, on, some);
      within = omega (arith, room, some);
      some = omega (arith, on, some);
      before = before_to c.args.pieces.now c.args.next.now c.requires.sorted (c.loop-stride.low + c.loop-stride.stride - 1) (omega (arith, room, some)) (sym c.is_before.ensures ∙ c.if-not-is_before.false);
    }
