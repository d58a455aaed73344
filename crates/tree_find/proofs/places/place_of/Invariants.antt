use Rattle.std.proofs.Common.{◌-◌, ◌≡◌, ◌≤◌, ◌<◌, ℕ, true, false}
use Rattle.tree_find.specs.Places.{is_reached}
use Rattle.tree_find.proofs.places.place_of.Given as goal

-- the key reaches all that stand below the low bound, and none from the high one on
abbrev pub invariant-halving : goal.invariant-halving
invariant-halving g l = record {
  ordered : l.low ≤ l.high;
  within : l.high ≤ l.n;
  below : (k : ℕ) → k < l.low → is_reached g.K.RecKind.form l.key l.leaf l.area k ≡ true;
  above : (k : ℕ) → l.high ≤ k → k < l.n → is_reached g.K.RecKind.form l.key l.leaf l.area k ≡ false;
}

abbrev pub decreases-halving : goal.decreases-halving
decreases-halving g l = l.high - l.low
