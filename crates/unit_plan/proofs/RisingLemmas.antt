-- Pieces that rise by their first blocks.
use Rattle.std.proofs.Common.{ℕ, List, inl, inr}
use Rattle.std.proofs.lemmas.Bool.{cases_lt}
use Rattle.unit_plan.specs.declared.piece.Piece.{Piece}
use Rattle.unit_plan.specs.Rising.{RiseBetween}

-- up to a piece and on from there is one row
pub one_row : (ps : List Piece) (first middle last : ℕ) → RiseBetween ps first middle → RiseBetween ps middle last → RiseBetween ps first last
one_row ps first middle last up on k d from to = elim (cases_lt k middle) [
  | inl low ↦ up k d from low
  | inr high ↦ on k d high to
]
