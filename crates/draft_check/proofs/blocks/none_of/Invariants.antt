use Rattle.std.proofs.Common.{ℕ, length}
use Rattle.tree_defs.specs.Lists.{In}
use Rattle.join_blocks.specs.Joins.{placed_in}
use Rattle.draft_check.proofs.blocks.none_of.Given as goal

-- where none of the rest was made, none of all was
abbrev pub invariant-loop-block : goal.invariant-loop-block
invariant-loop-block l = ((b : ℕ) → In b l.rest → In b (placed_in l.placed) → ⊥) → (b : ℕ) → In b l.left → In b (placed_in l.placed) → ⊥

abbrev pub decreases-loop-block : goal.decreases-loop-block
decreases-loop-block l = length l.rest
