use Rattle.std.proofs.Common.{◌+◌, ◌-◌, ◌/◌, ◌<◌, ℕ, arith, sym, ◌∙◌}
use Rattle.tree_find.proofs.PlaceLemmas.{reached_below, unreached_above, place_is}
use Rattle.tree_find.proofs.places.place_of.Goals as goal

pub halving-preserved-then-does_reach : goal.halving-preserved-then-does_reach
halving-preserved-then-does_reach g c =
    let middle : ℕ = c.halving.low + (c.halving.high - c.halving.low) / 2 in
    let lt : middle < c.args.n = omega (arith, c.halving.invariant.within, c.halving-test.true) in
    record {
      ordered = omega (arith, c.halving-test.true);
      within = c.halving.invariant.within;
      below = λ k lo. reached_below g.K.RecKind.form g.met.K.RecKind.lawful c.args.leaf c.args.area.now c.args.n c.requires.rising c.args.key.now middle lt (sym c.does_reach.ensures ∙ c.if-does_reach.true) k (omega (arith, lo));
      above = c.halving.invariant.above;
    }

pub halving-preserved : goal.halving-preserved
halving-preserved g c =
    let middle : ℕ = c.halving.low + (c.halving.high - c.halving.low) / 2 in
    record {
      ordered = omega (arith, c.halving-test.true);
      within = omega (arith, c.halving.invariant.within, c.halving-test.true);
      below = c.halving.invariant.below;
      above = λ k lo hi. unreached_above g.K.RecKind.form g.met.K.RecKind.lawful c.args.leaf c.args.area.now c.args.n c.requires.rising c.args.key.now middle (sym c.does_reach.ensures ∙ c.if-does_reach.false) k lo hi;
    }

pub returns-clause-place : goal.returns-clause-place
returns-clause-place g c =
    sym (place_is g.K.RecKind.form g.met.K.RecKind.lawful c.args.leaf c.args.area.now c.args.n c.requires.rising c.args.key.now c.halving.low (omega (arith, c.halving.invariant.ordered, c.halving.invariant.within)) c.halving.invariant.below (λ k lo hi. c.halving.invariant.above k (omega (arith, lo, c.halving-test.false)) hi))
