use Rattle.std.proofs.Common.{◌≤◌, ◌+◌, List, not, arith, length, refl, sym, subst}
use Rattle.rmap_recs.specs.Runs.{AreRuns}
use Rattle.rmap_recs.specs.declared.records.RmapRec.{RmapRec}
use Rattle.run_edits.proofs.RoomLemmas.{filter_rooms}
use Rattle.run_edits.proofs.SortLemmas.{filter_sorted}
use Rattle.shadow_rmap.specs.Union.{meets}
use Rattle.shadow_rmap.proofs.UnionLemmas.{add_exact, add_length, added_list, rooms_of}
use Rattle.shadow_rmap.proofs.union.add.Goals as goal

pub put-requires-clause-sorted : goal.put-requires-clause-sorted
put-requires-clause-sorted c = rw (c.leave_apart.ensures.items, c.in_ok-reserve.ensures.items) (filter_sorted (λ q. not (meets q c.args.rec.now)) c.args.list.now.items c.requires.sorted)

pub put-requires-clause-records : goal.put-requires-clause-records
put-requires-clause-records c = rw (c.leave_apart.ensures.items, c.in_ok-reserve.ensures.items) (filter_rooms (λ q. not (meets q c.args.rec.now)) c.args.list.now.items c.requires.records)

pub returns-clause-items : goal.returns-clause-items
returns-clause-items c = added_list c.args.rec.now c.args.list.now.items c.leave_apart.new.list.items c.put.new.list.items c.hull-whole.result
    (rw (c.hull-whole.ensures.value, c.deref.ensures.value) refl)
    (rw (c.leave_apart.ensures.items, c.in_ok-reserve.ensures.items) refl)
    c.put.ensures.items

pub returns-clause-exact : goal.returns-clause-exact
returns-clause-exact c = λ ts us untied union runs.
    subst (AreRuns us) (sym (returns-clause-items c)) (add_exact ts c.args.list.now.items c.args.rec.now (rooms_of c.args.list.now.items c.requires.records) c.requires.rec runs us untied union)

pub returns-clause-len : goal.returns-clause-len
returns-clause-len c =
    let new = c.put.new.list.ok.0 in
    let old = c.args.list.now.ok.0 in
    let fewer = subst (λ (xs : List RmapRec). length xs ≤ length c.args.list.now.items + 1) (sym (returns-clause-items c)) (add_length c.args.rec.now c.args.list.now.items) in
    omega (arith, new, old, fewer)
