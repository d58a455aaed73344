-- A set of claims within a group, and one claim more.
use Rattle.std.proofs.Common.{◌≡◌, ◌+◌, ◌≤◌, ℕ, List, [], ◌∷◌, ◌++◌, sym, subst}
use Rattle.std.specs.Prelude.{Result, Ok, Err, OnOk}
use Rattle.unit_plan.specs.Sets.{LieBelow}
use Rattle.unit_plan.specs.declared.piece.Piece.{Piece}

lies_more : (n : ℕ) (ps : List Piece) (p : Piece) → LieBelow n ps → p.run.start + p.run.count ≤ n → LieBelow n (ps ++ p ∷ [])
lies_more n [] p below within = (within, tt)
lies_more n (q ∷ qs) p below within = (below.0, lies_more n qs p below.1 within)

pub lies_after : {A E : Type 0} (r : Result A E) (n : ℕ) (old new : List Piece) (p : Piece) → LieBelow n old → p.run.start + p.run.count ≤ n → OnOk r (new ≡ old ++ p ∷ []) → OnOk r (LieBelow n new)
lies_after (Ok x) n old new p below within added = subst (LieBelow n) (sym added) (lies_more n old p below within)
lies_after (Err e) n old new p below within added = tt
