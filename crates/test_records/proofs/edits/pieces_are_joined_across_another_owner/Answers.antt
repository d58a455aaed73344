use Rattle.std.proofs.Common.{[], ◌∷◌, sym, subst}
use Rattle.run_edits.specs.Pieces.{ArePieces}
use Rattle.test_records.proofs.RowLemmas.{four_pieces}
use Rattle.test_records.proofs.edits.pieces_are_joined_across_another_owner.Goals as goal

pub join_pieces-requires : goal.join_pieces-requires
join_pieces-requires g c = subst ArePieces (sym (λ i. c.rec_of.ensures i ∷ c.rec_of-2.ensures i ∷ c.rec_of-3.ensures i ∷ c.rec_of-4.ensures i ∷ [])) four_pieces
