use Rattle.std.proofs.Common.{◌≡◌, ◌≤◌, ◌+◌, ◌++◌, length}
use Rattle.std.specs.Vec.{vec_len, vec_capacity}
use Rattle.edit_blocks.proofs.choice.push_all.Given as goal

abbrev pub invariant-loop-block : goal.invariant-loop-block
invariant-loop-block l = record {
  limbo : l.limbo.items ++ l.rest ≡ l.initial.limbo.items ++ l.blocks;
  room : vec_len l.limbo + length l.rest ≤ vec_capacity l.limbo;
  capacity : vec_capacity l.limbo ≡ vec_capacity l.initial.limbo;
}

abbrev pub decreases-loop-block : goal.decreases-loop-block
decreases-loop-block l = length l.rest
