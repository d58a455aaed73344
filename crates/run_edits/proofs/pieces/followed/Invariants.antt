use Rattle.std.proofs.Common.{◌≡◌, ℕ, ◌<◌, false, length, get_or, take}
use Rattle.std.specs.List.{list_any}
use Rattle.rmap_recs.specs.Rmap.{can_join}
use Rattle.rmap_recs.specs.declared.records.RmapRec.{RmapRec}
use Rattle.run_edits.proofs.pieces.followed.Given as goal

abbrev pub invariant-loop-piece : goal.invariant-loop-piece
invariant-loop-piece l = record {
  all : length l.marks.items ≡ length l.pieces;
  exact : (j : ℕ) (d : RmapRec) → j < length l.pieces → get_or l.marks.items j false ≡ list_any (λ p. can_join p (get_or l.pieces j d)) (take l.piece-index l.pieces);
}
