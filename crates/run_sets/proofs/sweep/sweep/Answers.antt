use Rattle.std.proofs.Common.{◌∙◌, ap, arith, Vec, Global}
use Rattle.run_sets.specs.declared.run.Run.{Run}
use Rattle.run_sets.specs.Operation.{kept}
use Rattle.run_sets.proofs.RestLemmas.{at_first, ends_before, rest_on}
use Rattle.run_sets.proofs.SweepLemmas.{turn_off, stay_off, stay_on, at_start, last_run, nothing_left, kept_at, kept_on}
use Rattle.run_sets.proofs.sweep.sweep.Goals as goal
use Rattle.run_sets.proofs.sweep.sweep.Goals.{then-start-length+in_ok-push-2, else-start-length}

pub loop-at-init : goal.loop-at-init
loop-at-init c = record {
  order = omega arith;
  within = omega arith;
  left = at_first c.args.left.now c.requires.left_maximal c.requires.left_ends;
  right = at_first c.args.right.now c.requires.right_maximal c.requires.right_ends;
  passes = λ b low high. absurd (omega (arith, high));
  found = at_start (kept c.args.operation c.args.left.now c.args.right.now) c.args.length _ c.new-found.ensures.items;
}

pub loop-at-preserved-in_ok-push : goal.loop-at-preserved-in_ok-push
loop-at-preserved-in_ok-push c = record {
  order = omega arith;
  within = omega arith;
  left = rest_on c.args.left.now c.loop-at.left_rest.now _ c.loop-at.at c.min-next.result c.loop-at.invariant.left (omega arith) c.rest_behind-left_rest.ensures;
  right = rest_on c.args.right.now c.loop-at.right_rest.now _ c.loop-at.at c.min-next.result c.loop-at.invariant.right (omega arith) c.rest_behind-right_rest.ensures;
  passes = λ b low high. absurd (omega (arith, low, high));
  found = turn_off (kept c.args.operation c.args.left.now c.args.right.now) c.loop-at.start c.loop-at.at c.min-next.result c.args.length c.loop-at.found.items _ _ c.if-start-at.true (omega arith) (omega arith) c.loop-at.invariant.passes
      (λ b low high. kept_at c.args.operation c.args.left.now c.args.right.now b _ _ _ (c.loop-at.invariant.left.same b low ∙ c.first_stretch-in_left.ensures.same b low (omega (arith, high))) (c.loop-at.invariant.right.same b low ∙ c.first_stretch-in_right.ensures.same b low (omega (arith, high))) c.keeps.ensures c.if-not-keeps.true) c.loop-at.invariant.found c.in_ok-push.ensures.items;
}

pub loop-at-preserved-else-start-at : goal.loop-at-preserved-else-start-at
loop-at-preserved-else-start-at c = record {
  order = omega arith;
  within = omega arith;
  left = rest_on c.args.left.now c.loop-at.left_rest.now _ c.loop-at.at c.min-next.result c.loop-at.invariant.left (omega arith) c.rest_behind-left_rest.ensures;
  right = rest_on c.args.right.now c.loop-at.right_rest.now _ c.loop-at.at c.min-next.result c.loop-at.invariant.right (omega arith) c.rest_behind-right_rest.ensures;
  passes = λ b low high. absurd (omega (arith, low, high));
  found = stay_off (kept c.args.operation c.args.left.now c.args.right.now) c.loop-at.start c.loop-at.at c.min-next.result c.args.length c.loop-at.found.items _ c.loop-at.invariant.order c.if-start-at.false (omega arith) (omega arith)
      (λ b low high. kept_at c.args.operation c.args.left.now c.args.right.now b _ _ _ (c.loop-at.invariant.left.same b low ∙ c.first_stretch-in_left.ensures.same b low (omega (arith, high))) (c.loop-at.invariant.right.same b low ∙ c.first_stretch-in_right.ensures.same b low (omega (arith, high))) c.keeps.ensures c.if-not-keeps.true) c.loop-at.invariant.found;
}

pub loop-at-preserved : goal.loop-at-preserved
loop-at-preserved c = record {
  order = omega arith;
  within = omega arith;
  left = rest_on c.args.left.now c.loop-at.left_rest.now _ c.loop-at.at c.min-next.result c.loop-at.invariant.left (omega arith) c.rest_behind-left_rest.ensures;
  right = rest_on c.args.right.now c.loop-at.right_rest.now _ c.loop-at.at c.min-next.result c.loop-at.invariant.right (omega arith) c.rest_behind-right_rest.ensures;
  passes = stay_on (kept c.args.operation c.args.left.now c.args.right.now) c.loop-at.start c.loop-at.at c.min-next.result c.loop-at.invariant.passes
      (λ b low high. kept_on c.args.operation c.args.left.now c.args.right.now b _ _ _ (c.loop-at.invariant.left.same b low ∙ c.first_stretch-in_left.ensures.same b low (omega (arith, high))) (c.loop-at.invariant.right.same b low ∙ c.first_stretch-in_right.ensures.same b low (omega (arith, high))) c.keeps.ensures c.if-not-keeps.false);
  found = c.loop-at.invariant.found;
}

pub returns : goal.returns
returns c = record {
  exact = elim c.if-start-length.branch [
    | then-start-length+in_ok-push-2 w ↦
        last_run (kept c.args.operation c.args.left.now c.args.right.now) c.loop-at.start c.args.length c.loop-at.found.items _ _ w.if-start-length.true
        (λ b low high. let end = c.loop-at-test.false in c.loop-at.invariant.passes b low (omega (arith, high, end))) c.loop-at.invariant.found
        (ap (λ (v : Vec Run Global). v.items) w.found-is ∙ w.in_ok-push-2.ensures.items)
    | else-start-length w ↦
        nothing_left (kept c.args.operation c.args.left.now c.args.right.now) c.loop-at.start c.args.length _ _ w.if-start-length.false (rw w.found-is c.loop-at.invariant.found)
  ];
}

pub first_stretch-in_left-requires-clause-maximal : goal.first_stretch-in_left-requires-clause-maximal
first_stretch-in_left-requires-clause-maximal c = c.loop-at.invariant.left.maximal

pub first_stretch-in_left-requires-clause-ends : goal.first_stretch-in_left-requires-clause-ends
first_stretch-in_left-requires-clause-ends c = c.loop-at.invariant.left.ends

pub first_stretch-in_left-requires-clause-ahead : goal.first_stretch-in_left-requires-clause-ahead
first_stretch-in_left-requires-clause-ahead c = c.loop-at.invariant.left.ahead

pub rest_behind-left_rest-requires-clause-maximal : goal.rest_behind-left_rest-requires-clause-maximal
rest_behind-left_rest-requires-clause-maximal c = c.loop-at.invariant.left.maximal

pub rest_behind-left_rest-requires-clause-ends : goal.rest_behind-left_rest-requires-clause-ends
rest_behind-left_rest-requires-clause-ends c = c.loop-at.invariant.left.ends

pub rest_behind-left_rest-requires-clause-first : goal.rest_behind-left_rest-requires-clause-first
rest_behind-left_rest-requires-clause-first c = ends_before c.loop-at.left_rest.now c.min-next.result c.first_stretch-in_left.result.end (omega arith) c.first_stretch-in_left.ensures.first

pub first_stretch-in_right-requires-clause-maximal : goal.first_stretch-in_right-requires-clause-maximal
first_stretch-in_right-requires-clause-maximal c = c.loop-at.invariant.right.maximal

pub first_stretch-in_right-requires-clause-ends : goal.first_stretch-in_right-requires-clause-ends
first_stretch-in_right-requires-clause-ends c = c.loop-at.invariant.right.ends

pub first_stretch-in_right-requires-clause-ahead : goal.first_stretch-in_right-requires-clause-ahead
first_stretch-in_right-requires-clause-ahead c = c.loop-at.invariant.right.ahead

pub rest_behind-right_rest-requires-clause-maximal : goal.rest_behind-right_rest-requires-clause-maximal
rest_behind-right_rest-requires-clause-maximal c = c.loop-at.invariant.right.maximal

pub rest_behind-right_rest-requires-clause-ends : goal.rest_behind-right_rest-requires-clause-ends
rest_behind-right_rest-requires-clause-ends c = c.loop-at.invariant.right.ends

pub rest_behind-right_rest-requires-clause-first : goal.rest_behind-right_rest-requires-clause-first
rest_behind-right_rest-requires-clause-first c = ends_before c.loop-at.right_rest.now c.min-next.result c.first_stretch-in_right.result.end (omega arith) c.first_stretch-in_right.ensures.first
