-- A set of blocks, as contracts see it.
use Rattle.std.specs.Prelude.{ℕ, Bool, List}
use Rattle.run_sets.specs.declared.run.Run.{Run}
use Rattle.run_sets.specs.declared.set.RunSet.{RunSet}
use Rattle.run_sets.specs.Runs.{holds}

-- the runs that the set is kept as
abbrev pub runs_of : RunSet → List Run
runs_of set = set.runs.items

-- the block lies in the set
abbrev pub has : RunSet → ℕ → Bool
has set b = holds (runs_of set) b
