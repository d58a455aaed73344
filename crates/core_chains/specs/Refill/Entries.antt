-- Which entries a refill adds to the journal ("AG Free List").
use Rattle.std.specs.Prelude.{◌≡◌, ◌≤◌, ℕ, ◌+◌, ◌-◌, ◌++◌, ◌∷◌, [], List, Some, length, map, min, nat_lt, if◌then◌else◌}
use Rattle.std.specs.List.{slice_get}
use Rattle.ag_headers.specs.Ring.{entries as listed}
use Rattle.core_parts.specs.declared.groups.GroupKept.{GroupKept}
use Rattle.fs_model.specs.declared.entry.Entry.{Entry}
use Rattle.fs_model.specs.declared.entry.Entry.TheVariants as entries
use Rattle.free_space.specs.declared.list.ListGoal.{ListGoal}
use Rattle.free_space.specs.declared.list.ListGoal.TheVariants as goals
use Rattle.run_sets.specs.declared.run.Run.{Run}

-- below 12 blocks a list wants 16, and of more than 64 it keeps 16
abbrev pub goal_of : ℕ → ListGoal
goal_of len = if nat_lt len 12 then goals.Take (16 - len) else if nat_lt 64 len then goals.Give (len - 16) else goals.Nothing

abbrev pub trimmed : ℕ → Run → Entry
trimmed g r = entries.Trimmed (record { group = g; block = r.start; count = r.count })

-- so many blocks and those of the runs, up to the greatest number
abbrev pub with_blocks : ℕ → List Run → ℕ
with_blocks n [] = n
with_blocks n (r ∷ rs) = with_blocks (min (n + r.count) 4294967295) rs

-- one run came to the list, or runs left it, or it was left
abbrev pub SaysGoal : ListGoal → (g count : ℕ) → (was now : List Entry) → Type 0
SaysGoal (goals.Take wanted) g count was now =
    (block : ℕ) × (count ≤ wanted) × (now ≡ was ++ entries.Refilled (record { group = g; block = block; count = count }) ∷ [])
SaysGoal (goals.Give most) g count was now = (runs : List Run) × (count ≡ with_blocks 0 runs) × (now ≡ was ++ map (trimmed g) runs)
SaysGoal goals.Nothing g count was now = (count ≡ 0) × (now ≡ was)

-- as the list that is kept of the group asks for
pub record SaysRefilled (ks : List GroupKept) (g count : ℕ) (was now : List Entry) : Type 0 where
  pub kept : GroupKept
  pub there : slice_get ks g ≡ Some kept
  pub goal : SaysGoal (goal_of (length (listed kept.heads.list))) g count was now
