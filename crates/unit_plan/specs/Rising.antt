-- Pieces that rise by their first blocks.
use Rattle.std.specs.Prelude.{ℕ, ◌<◌, ◌≤◌, ◌+◌, List, get_or}
use Rattle.unit_plan.specs.declared.piece.Piece.{Piece}

-- from one place to another, each begins where the one before it does or behind
abbrev pub RiseBetween : List Piece → ℕ → ℕ → Type 0
RiseBetween ps from to = (k : ℕ) (d : Piece) → from ≤ k → k < to → (get_or ps k d).run.start ≤ (get_or ps (k + 1) d).run.start
