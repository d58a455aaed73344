use Rattle.std.proofs.Common.{ℕ, ◌<◌, List, ◌∙◌, ap, sym, arith, Vec, Global}
use Rattle.run_sets.specs.declared.run.Run.{Run}
use Rattle.run_sets.specs.Runs.{most}
use Rattle.run_sets.specs.Stretches.{ArePassed, open_at}
use Rattle.run_sets.proofs.StretchesLemmas.{turn_found, turn_small, turn_on, at_start, last_found, last_small}
use Rattle.run_sets.proofs.overlap.levels.Goals as goal
use Rattle.run_sets.proofs.overlap.levels.Goals.{then-count-least-2+in_ok-push-2, else-count-least-2}

-- what is at most a block is at most a later one
passed_on : (numbers : List ℕ) (n at next : ℕ) → at < next → ArePassed numbers n at → ArePassed numbers n next
passed_on numbers n at next on h = (h.0, λ k lt. let le = h.1 k lt in omega (arith, le, on))

pub loop-at-init : goal.loop-at-init
loop-at-init c = record {
  order = omega arith;
  within = omega arith;
  ahead = λ enough. absurd (let some = c.requires.least in omega (arith, enough, some));
  equal = λ b low high. absurd (omega (arith, high));
  begun = (omega arith, λ k h. absurd (omega (arith, h)));
  ended = (omega arith, λ k h. absurd (omega (arith, h)));
  found = at_start (open_at c.args.starts.now c.args.ends.now) c.args.least most _ c.new-found.ensures.items;
}

pub loop-at-preserved-in_ok-push : goal.loop-at-preserved-in_ok-push
loop-at-preserved-in_ok-push c =
    let on = c.level_at-level.ensures.on in
    let here = c.level_at-level.ensures.same c.loop-at.at (omega arith) on in
    record {
      order = omega (arith, on);
      within = c.level_at-level.ensures.within;
      ahead = λ enough. on;
      equal = c.level_at-level.ensures.same;
      begun = passed_on c.args.starts.now _ c.loop-at.at _ on c.level_at-level.ensures.begun;
      ended = passed_on c.args.ends.now _ c.loop-at.at _ on c.level_at-level.ensures.ended;
      found = turn_found (open_at c.args.starts.now c.args.ends.now) c.args.least c.loop-at.start c.loop-at.at most c.loop-at.count c.loop-at.found.items _ _ (c.loop-at.invariant.ahead c.if-count-least.true) c.loop-at.invariant.within
          c.loop-at.invariant.equal c.if-count-least.true (λ e. c.if-level-count.true (sym here ∙ e)) c.loop-at.invariant.found c.in_ok-push.ensures.items;
    }

pub loop-at-preserved-else-count-least : goal.loop-at-preserved-else-count-least
loop-at-preserved-else-count-least c =
    let on = c.level_at-level.ensures.on in
    record {
      order = omega (arith, on);
      within = c.level_at-level.ensures.within;
      ahead = λ enough. on;
      equal = c.level_at-level.ensures.same;
      begun = passed_on c.args.starts.now _ c.loop-at.at _ on c.level_at-level.ensures.begun;
      ended = passed_on c.args.ends.now _ c.loop-at.at _ on c.level_at-level.ensures.ended;
      found = turn_small (open_at c.args.starts.now c.args.ends.now) c.args.least c.loop-at.start c.loop-at.at most c.loop-at.count c.loop-at.found.items _ c.loop-at.invariant.order c.loop-at.invariant.within
          c.loop-at.invariant.equal c.if-count-least.false c.loop-at.invariant.found;
    }

pub loop-at-preserved : goal.loop-at-preserved
loop-at-preserved c =
    let on = c.level_at-level.ensures.on in
    let order = c.loop-at.invariant.order in
    record {
      order = omega (arith, on, order);
      within = c.level_at-level.ensures.within;
      ahead = λ enough. let front = c.loop-at.invariant.ahead enough in omega (arith, on, front);
      equal = turn_on (open_at c.args.starts.now c.args.ends.now) c.loop-at.start c.loop-at.at c.level_at-level.result.end c.loop-at.count c.loop-at.invariant.equal
          (λ b low high. c.level_at-level.ensures.same b low high ∙ c.if-level-count.false);
      begun = passed_on c.args.starts.now _ c.loop-at.at _ on c.level_at-level.ensures.begun;
      ended = passed_on c.args.ends.now _ c.loop-at.at _ on c.level_at-level.ensures.ended;
      found = c.loop-at.invariant.found;
    }

pub returns : goal.returns
returns c =
    let over = c.loop-at-test.false in
    let order = c.loop-at.invariant.order in
    let within = c.loop-at.invariant.within in
    record {
      exact = elim c.if-count-least-2.branch [
        | then-count-least-2+in_ok-push-2 w ↦
            let front = c.loop-at.invariant.ahead w.if-count-least-2.true in
            last_found (open_at c.args.starts.now c.args.ends.now) c.args.least c.loop-at.start most c.loop-at.count c.loop-at.found.items _ _ (omega (arith, front, within))
            (λ b low high. c.loop-at.invariant.equal b low (omega (arith, high, over))) w.if-count-least-2.true c.loop-at.invariant.found
            (ap (λ (v : Vec (Run × ℕ) Global). v.items) w.found-is ∙ w.in_ok-push-2.ensures.items)
        | else-count-least-2 w ↦
            last_small (open_at c.args.starts.now c.args.ends.now) c.args.least c.loop-at.start most c.loop-at.count _ _ (omega (arith, order, within))
            (λ b low high. c.loop-at.invariant.equal b low (omega (arith, high, over))) w.if-count-least-2.false (rw w.found-is c.loop-at.invariant.found)
      ];
    }
