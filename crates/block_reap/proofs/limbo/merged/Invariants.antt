use Rattle.std.proofs.Common.{◌≡◌, ◌≤◌, ◌+◌, ℕ, length, vec_len}
use Rattle.std.specs.Prelude.{◌||◌}
use Rattle.std.specs.Vec.{vec_capacity}
use Rattle.block_reap.specs.Limbo.{AllHaveRuns, IsLimbo, has}
use Rattle.block_reap.proofs.limbo.merged.Given as goal

abbrev pub invariant-loop-run : goal.invariant-loop-run
invariant-loop-run l =
    IsLimbo l.limbo.items
    × AllHaveRuns l.rest
    × ((b o : ℕ) → (has l.limbo.items b o || has l.rest b o) ≡ (has l.first b o || has l.second b o))
    × (vec_len l.limbo + length l.rest ≤ vec_capacity l.limbo)

abbrev pub decreases-loop-run : goal.decreases-loop-run
decreases-loop-run l = length l.rest
