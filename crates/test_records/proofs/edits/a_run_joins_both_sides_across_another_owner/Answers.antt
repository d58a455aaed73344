use Rattle.std.proofs.Common.{[], ◌∷◌, All, sym, subst, ◌∙◌}
use Rattle.run_edits.specs.Edits.{AreSorted, HasRoom}
use Rattle.test_records.proofs.RowLemmas.{joins_sorted, joins_room, joins_run}
use Rattle.test_records.proofs.edits.a_run_joins_both_sides_across_another_owner.Goals as goal

pub give-requires-clause-sorted : goal.give-requires-clause-sorted
give-requires-clause-sorted g c = subst AreSorted (sym (c.in_ok-list.ensures.items ∙ (λ i. c.rec_of.ensures i ∷ c.rec_of-2.ensures i ∷ c.rec_of-3.ensures i ∷ []))) joins_sorted

pub give-requires-clause-records : goal.give-requires-clause-records
give-requires-clause-records g c = subst (All HasRoom) (sym (c.in_ok-list.ensures.items ∙ (λ i. c.rec_of.ensures i ∷ c.rec_of-2.ensures i ∷ c.rec_of-3.ensures i ∷ []))) joins_room

pub give-requires-clause-run : goal.give-requires-clause-run
give-requires-clause-run g c = rw c.rec_of-4.ensures joins_run
