-- What is left of a list of runs where a sweep over the blocks has come to a block.
use Rattle.std.specs.Prelude.{◌≡◌, ℕ, List, [], ◌∷◌, ◌+◌, ◌≤◌}
use Rattle.run_sets.specs.declared.run.Run.{Run}
use Rattle.run_sets.specs.Runs.{holds, most, AreMaximal, EndWithin}

-- the first run ends at the block or behind it
abbrev pub EndFrom : ℕ → List Run → Type 0
EndFrom b [] = Unit {0}
EndFrom b (r ∷ rs) = b ≤ r.start + r.count

-- from the block on the rest holds what the runs hold, and its first run ends behind the block
pub record IsRest (runs : List Run) (at : ℕ) (rest : List Run) : Type 0 where
  pub maximal : AreMaximal 0 rest
  pub ends : EndWithin most rest
  pub ahead : EndFrom (at + 1) rest
  pub same : (b : ℕ) → at ≤ b → holds runs b ≡ holds rest b
