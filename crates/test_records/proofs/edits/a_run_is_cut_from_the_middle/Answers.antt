use Rattle.std.proofs.Common.{[], ◌∷◌, All, sym, subst, ◌∙◌}
use Rattle.run_edits.specs.Edits.{AreSorted, HasRoom}
use Rattle.test_records.proofs.RowLemmas.{middle_sorted, middle_room, middle_run}
use Rattle.test_records.proofs.edits.a_run_is_cut_from_the_middle.Goals as goal

pub take-requires-clause-sorted : goal.take-requires-clause-sorted
take-requires-clause-sorted g c = subst AreSorted (sym (c.in_ok-list.ensures.items ∙ (λ i. c.rec_of.ensures i ∷ c.rec_of-2.ensures i ∷ []))) middle_sorted

pub take-requires-clause-records : goal.take-requires-clause-records
take-requires-clause-records g c = subst (All HasRoom) (sym (c.in_ok-list.ensures.items ∙ (λ i. c.rec_of.ensures i ∷ c.rec_of-2.ensures i ∷ []))) middle_room

pub take-requires-clause-run : goal.take-requires-clause-run
take-requires-clause-run g c = rw c.rec_of-3.ensures middle_run
