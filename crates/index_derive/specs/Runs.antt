-- Runs that rise by their starts, and the maximal runs of their blocks.
use Rattle.std.specs.Prelude.{◌≡◌, ℕ, ◌+◌, ◌-◌, ◌≤◌, max, nat_lt, List, [], ◌∷◌, ◌++◌, if◌then◌else◌}
use Rattle.run_sets.specs.declared.run.Run.{Run}

-- no run begins before the one in front of it, nor before this block
abbrev pub StartsRise : ℕ → List Run → Type 0
StartsRise from [] = Unit {0}
StartsRise from (r ∷ rs) = (from ≤ r.start) × StartsRise r.start rs

-- a run that is open from its start to its end, where it has blocks
abbrev pub shut : ℕ → ℕ → List Run
shut start end = if nat_lt start end then record { start = start; count = end - start } ∷ [] else []

-- the runs behind one that is open: each joins it where it begins at its end or before it
unfoldable pub merged : ℕ → ℕ → List Run → List Run
merged start end [] = shut start end
merged start end (r ∷ rs) =
    if nat_lt end r.start then shut start end ++ merged r.start (r.start + r.count) rs
    else merged start (max end (r.start + r.count)) rs

-- runs that were put down with a span behind them, and one run more: whatever follows, the new ones stand for the same
abbrev pub Goes : List Run → ℕ → ℕ → Run → List Run → ℕ → ℕ → Type 0
Goes old start end r new start' end' = (rest : List Run) → new ++ merged start' end' rest ≡ old ++ merged start end (r ∷ rest)
