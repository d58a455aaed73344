-- What waits to be freed after a switch, or after a unit was reopened.
use Rattle.std.specs.Prelude.{◌≡◌, ⊤, ℕ, ◌+◌, ◌<◌, ◌≤◌, ◌^◌, ◌||◌, List, [], ◌∷◌, drop, length, map}
use Rattle.block_reap.specs.Limbo.{has, owner_of_unit}
use Rattle.block_reap.specs.declared.runs.LimboRun.{LimboRun}
use Rattle.rmap_recs.specs.Owners.{number_of}
use Rattle.run_sets.specs.declared.run.Run.{Run}
use Rattle.core_units.specs.declared.rebuild.Rebuild.{Rebuild}

-- a block with this owner, and a run
abbrev pub block_run : ℕ → ℕ → LimboRun
block_run owner b = record { start = b; count = 1; owner = owner }

abbrev pub lost_run : ℕ → Run → LimboRun
lost_run owner r = record { start = r.start; count = r.count; owner = owner }

abbrev pub block_runs : ℕ → List ℕ → List LimboRun
block_runs owner bs = map (block_run owner) bs

abbrev pub lost_runs : ℕ → List Run → List LimboRun
lost_runs owner rs = map (lost_run owner) rs

-- each has a number after it
abbrev pub BlocksEnd : List ℕ → Type 0
BlocksEnd [] = ⊤
BlocksEnd (b ∷ bs) = (b + 1 < 2 ^ 32) × BlocksEnd bs

abbrev pub owner_in : Rebuild → ℕ
owner_in r = number_of (owner_of_unit r.building.unit)

-- limbo after the switch: what was there, the lost blocks, and those of the reserve from this number on
abbrev pub IsLimboAfter : Rebuild → (used : ℕ) → (old new : List LimboRun) → Type 0
IsLimboAfter r used old new = (b o : ℕ) → has new b o ≡ ((has old b o || has (lost_runs (owner_in r) r.lost.items) b o) || has (block_runs (owner_in r) (drop used r.building.reserve.items)) b o)
