use Rattle.std.proofs.Common.{◌≡◌, ◌≤◌, ◌+◌, ◌^◌, length}
use Rattle.std.specs.Prelude.{◌||◌}
use Rattle.std.specs.BTreeSet.{contains}
use Rattle.std.specs.Ordering.{nat_cmp}
use Rattle.join_blocks.specs.Joins.{is_joined, fresh, numbers, LieBelow}
use Rattle.join_blocks.proofs.count.count_with.Given as goal

abbrev pub invariant-loop-block : goal.invariant-loop-block
invariant-loop-block l = record {
  fits : LieBelow (2 ^ 64) l.first l.rest;
  few : l.count + length l.rest ≤ length l.blocks;
  count : l.count + fresh (λ n. contains nat_cmp l.seen n || is_joined l.txn.blocks n) (numbers l.first l.rest) ≡ fresh (is_joined l.txn.blocks) (numbers l.first l.blocks);
}

abbrev pub decreases-loop-block : goal.decreases-loop-block
decreases-loop-block l = length l.rest
