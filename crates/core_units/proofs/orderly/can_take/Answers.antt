use Rattle.std.proofs.Common.{List, rules, sym, subst}
use Rattle.rmap_recs.specs.declared.records.RmapRec.{RmapRec}
use Rattle.run_edits.specs.Edits.{AreSorted}
use Rattle.core_units.specs.TreesFit.{CanTake}
use Rattle.core_units.specs.declared.lists.Lists.{Lists}
use Rattle.core_units.specs.Tested.{RoomWithin}
use Rattle.core_units.proofs.TestedLemmas.{have_room}
use Rattle.core_units.proofs.orderly.can_take.Goals as goal

pub returns-else-not-are_sorted-clause-taken : goal.returns-else-not-are_sorted-clause-taken
returns-else-not-are_sorted-clause-taken c = λ e.
    let maps = c.in-Rmap.rmap.items in
    let slice : AreSorted c.as_slice.result.now = search rules in
    let sorted : AreSorted maps = subst (λ (l : List RmapRec). AreSorted l) c.as_slice.ensures.value slice in
    let ranged : RoomWithin c.args.bounds.now maps = subst (λ (l : List RmapRec). RoomWithin c.args.bounds.now l) c.as_slice-in-Rmap.ensures.value (c.are_ranged.ensures e) in
    subst (λ (l : Lists). CanTake l) (sym c.in-Rmap.is) (sorted, have_room c.args.bounds.now maps c.requires.bounds ranged)
