-- Lists of a few records can be edited: what the tests ask.
use Rattle.std.proofs.Common.{zero, suc, List, [], ◌∷◌, All, refl, arith}
use Rattle.rmap_recs.specs.Rmap.{has_end, is_key_before}
use Rattle.rmap_recs.specs.Words.{is_fork_data, key_word}
use Rattle.rmap_recs.specs.declared.records.RmapRec.{RmapRec}
use Rattle.run_edits.specs.Edits.{AreSorted, HasRoom}
use Rattle.run_edits.specs.Needed.{ag, rec_of}
use Rattle.run_edits.specs.Pieces.{ArePieces}
use Rattle.run_edits.proofs.TupleLemmas.{by_tests}
use Rattle.sblock.specs.Lists.{Rises}
use Rattle.run_edits.specs.Edits.{is_before}

none : All HasRoom []
none k d within = absurd (omega (arith, within))

more : (r : RmapRec) (xs : List RmapRec) → HasRoom r → All HasRoom xs → All HasRoom (r ∷ xs)
more r xs h each zero d within = h
more r xs h each (suc k) d within = each k d (omega (arith, within))

abbrev four : List RmapRec
four = rec_of 4 2 ag 0 ∷ rec_of 5 1 195 7 ∷ rec_of 6 2 195 8 ∷ rec_of 6 1 ag 0 ∷ []

four_rise : Rises is_before four
unfolding is_key_before key_word
four_rise = (refl, (refl, (refl, (tt, tt))))

four_room : All HasRoom four
unfolding has_end is_fork_data
four_room =
    more (rec_of 4 2 ag 0) (rec_of 5 1 195 7 ∷ rec_of 6 2 195 8 ∷ rec_of 6 1 ag 0 ∷ []) (refl, omega arith)
    (more (rec_of 5 1 195 7) (rec_of 6 2 195 8 ∷ rec_of 6 1 ag 0 ∷ []) (refl, omega arith)
    (more (rec_of 6 2 195 8) (rec_of 6 1 ag 0 ∷ []) (refl, omega arith) (more (rec_of 6 1 ag 0) [] (refl, omega arith) none)))

pub four_pieces : ArePieces (rec_of 4 2 ag 0 ∷ rec_of 5 1 195 7 ∷ rec_of 6 2 195 8 ∷ rec_of 6 1 ag 0 ∷ [])
four_pieces = by_tests four four_rise four_room refl
