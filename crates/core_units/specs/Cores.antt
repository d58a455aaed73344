-- Which of the listed units a place leaves to be seen.
use Rattle.std.specs.Prelude.{◌≡◌, ℕ, zero, suc, ◌+◌, ◌-◌, ◌≤◌, List, [], ◌∷◌, ◌++◌}
use Rattle.fs_state.specs.Lists.{numbers}
use Rattle.inode_pass.specs.Units.{units_in}
use Rattle.run_sets.specs.Runs.{EndWithin}
use Rattle.run_sets.specs.declared.run.Run.{Run}
use Rattle.core_units.specs.declared.cores.UnitPlace.{UnitPlace}

-- of the run with this number those behind the first so many, and all units of later runs
abbrev pub units_behind : List Run → ℕ → ℕ → List ℕ
units_behind [] run passed = []
units_behind (r ∷ rs) zero passed = numbers (r.start + passed) (r.count - passed) ++ units_in rs
units_behind (r ∷ rs) (suc run) passed = units_behind rs run passed

abbrev pub units_left : List Run → UnitPlace → List ℕ
units_left units at = units_behind units at.run at.passed

-- these are the next ones, a hundred at most and within the runs, and the others are left behind them
pub record SeesNext (units : List Run) (at : UnitPlace) (run : Run) (behind : UnitPlace) : Type 0 where
  pub next : units_left units at ≡ numbers run.start run.count ++ units_left units behind
  pub few : run.count ≤ 100
  pub inside : (n : ℕ) → EndWithin n units → run.start + run.count ≤ n
