use Rattle.std.proofs.Common.{[], ◌∷◌, sym, subst}
use Rattle.run_edits.specs.Pieces.{ArePieces}
use Rattle.test_derive.proofs.RowLemmas.{four_pieces}
use Rattle.test_derive.proofs.owners.pieces_become_the_runs_of_their_owners.Goals as goal

pub reverse_mappings-requires : goal.reverse_mappings-requires
reverse_mappings-requires g c = subst ArePieces (sym (λ i. c.rec_of.ensures i ∷ c.rec_of-2.ensures i ∷ c.rec_of-3.ensures i ∷ c.rec_of-4.ensures i ∷ [])) four_pieces

pub count_mappings-count-requires : goal.count_mappings-count-requires
count_mappings-count-requires g c = subst ArePieces (sym (λ i. c.rec_of.ensures i ∷ c.rec_of-2.ensures i ∷ c.rec_of-3.ensures i ∷ c.rec_of-4.ensures i ∷ [])) four_pieces
