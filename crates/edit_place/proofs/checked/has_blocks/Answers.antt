use Rattle.std.proofs.lemmas.Result.{IfOk-weaker}
use Rattle.edit_place.proofs.PlaceLemmas.{has_all}
use Rattle.edit_place.proofs.checked.has_blocks.Goals as goal

pub returns : goal.returns
returns c =
    let a = c.args in
    IfOk-weaker c.are_moved.result _ _ (λ yes moved is. has_all a.lsn a.before.now a.taken.now a.after.now a.draft.now
    c.deref.result.now c.deref-else-not-are_theirs.result.now c.deref-2.result.now c.deref-else-not-none_of.result.now c.deref-3.result.now c.deref-4.result.now
    c.deref.ensures.value c.deref-else-not-are_theirs.ensures.value c.deref-2.ensures.value c.deref-else-not-none_of.ensures.value c.deref-3.ensures.value c.deref-4.ensures.value
    (c.are_theirs.ensures c.if-not-are_theirs.false) (c.all_placed.ensures c.if-not-all_placed.false) (c.none_of.ensures c.if-not-none_of.false) (c.are_stamped.ensures c.if-not-are_stamped.false) (moved is))
    c.are_moved.ensures
