use Rattle.std.proofs.Common.{◌-◌, ◌+◌, ◌≤◌, length, take, drop}
use Rattle.xref_scrub.specs.Cursors.{AllBefore, NoneBehind}
use Rattle.xref_scrub.specs.Differences.{comes_before}
use Rattle.xref_scrub.proofs.numbers.derived_among.Given as goal

-- the number wanted lies between both bounds: what would be passed below the low one may be, and what would be left above the high one too
abbrev pub invariant-halving : goal.invariant-halving
invariant-halving g l = record {
  ordered : l.low ≤ l.high;
  within : l.high ≤ length l.derived;
  among : l.high ≤ l.number;
  enough : l.number ≤ l.low + length l.index;
  below : NoneBehind (comes_before g.K.RecKind.form) (take l.low l.derived) (drop (l.number - l.low) l.index);
  above : AllBefore (comes_before g.K.RecKind.form) (take (l.number - l.high) l.index) (drop l.high l.derived);
}

abbrev pub decreases-halving : goal.decreases-halving
decreases-halving g l = l.high - l.low
