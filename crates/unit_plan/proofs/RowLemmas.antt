-- Records that stand in a row.
use Rattle.std.proofs.Common.{suc, List, [], ◌∷◌, All, arith}
use Rattle.std.proofs.lemmas.List.Elements.{All-cons, All-nil}
use Rattle.sblock.specs.Lists.{Rises}
use Rattle.rmap_recs.specs.declared.records.RmapRec.{RmapRec}
use Rattle.run_edits.specs.Edits.{HasRoom, is_before}
use Rattle.unit_plan.specs.Joined.{Fits, StandInRow}

pub row_rises : (rs : List RmapRec) → StandInRow rs → Rises is_before rs
row_rises [] h = tt
row_rises (r ∷ rs) h = (h.0.1, row_rises rs h.1)

pub row_fits : (rs : List RmapRec) → StandInRow rs → All Fits rs
row_fits [] h = All-nil Fits
row_fits (r ∷ rs) h = All-cons Fits r rs h.0.0 (row_fits rs h.1)

pub pieces_row : (rs : List RmapRec) → Rises is_before rs → All HasRoom rs → StandInRow rs
pieces_row [] up rooms = tt
pieces_row (r ∷ rs) up rooms = (((rooms 0 r (omega arith)).1, up.0), pieces_row rs up.1 (λ k d lt. rooms (suc k) d (omega (arith, lt))))
