-- What becomes of a block that lies in the left set, the right one, both or neither.
use Rattle.std.specs.Prelude.{ℕ, Bool, not, List, ◌&&◌, ◌||◌}
use Rattle.run_sets.specs.declared.run.Run.{Run}
use Rattle.run_sets.specs.declared.sweep.Operation.{Operation}
use Rattle.run_sets.specs.declared.sweep.Operation.TheVariants.{Union, Difference, Neither}
use Rattle.run_sets.specs.Runs.{holds}

abbrev pub joined : Operation → Bool → Bool → Bool
joined Union left right = left || right
joined Difference left right = left && not right
joined Neither left right = not (left || right)

-- the operation keeps the block
abbrev pub kept : Operation → List Run → List Run → ℕ → Bool
kept operation left right b = joined operation (holds left b) (holds right b)
