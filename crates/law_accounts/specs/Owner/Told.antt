-- Do reverse mappings say who owns which block, as if nothing that is pending had begun?
use Rattle.std.specs.Prelude.{ℕ}
use Rattle.fs_change.specs.Chains.{settled_own}
use Rattle.fs_state.specs.Derive.{mappings}
use Rattle.fs_state.specs.State.{State}
use Rattle.rmap_recs.specs.Runs.{AreRuns}

-- they are the maximal runs of the settled owners
abbrev pub AreTold : State → ℕ → Type 0
AreTold a g = AreRuns (settled_own a g) (mappings a g)
