-- Blocks that move between some parts of one group.
use Rattle.std.specs.Prelude.{◌≡◌, ℕ, ◌⊎◌, List, [], ◌∷◌, ◌++◌}
use Rattle.fs_state.specs.Apart.{Part, In}

-- a part with its group-relative blocks
abbrev pub Share : Type 0
Share = Part × List ℕ

abbrev pub total : List Share → List ℕ
total [] = []
total (s ∷ ss) = s.1 ++ total ss

-- the block is in the share of this part
abbrev pub ShareOf : List Share → Part → ℕ → Type 0
ShareOf [] c p = ⊥
ShareOf (s ∷ ss) c p = ((s.0 ≡ c) × In p s.1) ⊎ ShareOf ss c p
