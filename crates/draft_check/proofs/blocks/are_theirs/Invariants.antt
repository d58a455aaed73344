use Rattle.std.proofs.Common.{◌⊎◌, ℕ, length}
use Rattle.tree_defs.specs.Lists.{In}
use Rattle.join_blocks.specs.Joins.{placed_in}
use Rattle.draft_check.proofs.blocks.are_theirs.Given as goal

-- where the rest are theirs, all are
abbrev pub invariant-loop-block : goal.invariant-loop-block
invariant-loop-block l = ((b : ℕ) → In b (placed_in l.rest) → In b l.before ⊎ In b l.taken) → (b : ℕ) → In b (placed_in l.placed) → In b l.before ⊎ In b l.taken

abbrev pub decreases-loop-block : goal.decreases-loop-block
decreases-loop-block l = length l.rest
