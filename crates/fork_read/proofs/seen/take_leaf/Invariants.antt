use Rattle.std.proofs.Common.{◌≡◌, ◌≤◌, ◌*◌, ◌++◌, length}
use Rattle.dinode_core.specs.Inline.{mappings_in}
use Rattle.dinode_core.specs.ForkTree.{leaf_mappings}
use Rattle.fork_read.proofs.seen.take_leaf.Given as goal

abbrev pub invariant-loop-left : goal.invariant-loop-left
invariant-loop-left l = record {
  goes_on : l.seen.mappings.items ++ mappings_in l.left l.rest ≡ l.fn.seen.mappings.items ++ leaf_mappings l.fn.block.bytes;
  room : 16 * l.left ≤ length l.rest;
  blocks : l.seen.blocks.items ≡ l.fn.seen.blocks.items;
  lasts : l.seen.lasts ≡ l.fn.seen.lasts;
}

abbrev pub decreases-loop-left : goal.decreases-loop-left
decreases-loop-left l = l.left
