use Rattle.std.proofs.Common.{ℕ, length}
use Rattle.tree_defs.specs.Lists.{In}
use Rattle.join_blocks.specs.Joins.{placed_in}
use Rattle.draft_check.proofs.blocks.all_placed.Given as goal

-- where each of the rest was made, each of all was
abbrev pub invariant-loop-block : goal.invariant-loop-block
invariant-loop-block l = ((b : ℕ) → In b l.rest → In b (placed_in l.placed)) → (b : ℕ) → In b l.taken → In b (placed_in l.placed)

abbrev pub decreases-loop-block : goal.decreases-loop-block
decreases-loop-block l = length l.rest
