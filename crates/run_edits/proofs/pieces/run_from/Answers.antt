use Rattle.std.proofs.Common.{◌≡◌, ◌+◌, None, find, sym, ap, ◌∙◌, arith}
use Rattle.rmap_recs.specs.Rmap.{can_join}
use Rattle.rmap_recs.specs.declared.records.RmapRec.{RmapRec}
use Rattle.rmap_recs.proofs.RisingLemmas.{found_by_find}
use Rattle.run_edits.specs.Pieces.{run_of}
use Rattle.run_edits.proofs.PieceLemmas.{joined_room, piece_some, run_on, run_stops}
use Rattle.run_edits.proofs.pieces.run_from.Goals as goal

pub joined-run-requires : goal.joined-run-requires
joined-run-requires c =
    let hit = found_by_find (can_join c.loop-next.run) c.args.pieces.now c.in-Some.next (sym c.follower.ensures ∙ c.in-Some.is) in
    let room = joined_room c.args.pieces.now c.requires.records c.loop-next.run c.in-Some.next hit.0 hit.1 in
    omega (arith, room)

pub loop-next-smaller : goal.loop-next-smaller
loop-next-smaller c =
    let hit = found_by_find (can_join c.loop-next.run) c.args.pieces.now c.in-Some.next (sym c.follower.ensures ∙ c.in-Some.is) in
    let some = piece_some c.args.pieces.now c.requires.records c.in-Some.next hit.0 in
    let start : c.joined-run.result.start ≡ c.loop-next.run.start = ap (λ (r : RmapRec). r.start) c.joined-run.ensures in
    let count : c.joined-run.result.count ≡ c.loop-next.run.count + c.in-Some.next.count = ap (λ (r : RmapRec). r.count) c.joined-run.ensures in
    let room = c.loop-next.invariant.room in
    omega (arith, some, start, count, room)

pub loop-next-preserved : goal.loop-next-preserved
loop-next-preserved c =
    let found = sym c.follower.ensures ∙ c.in-Some.is in
    let hit = found_by_find (can_join c.loop-next.run) c.args.pieces.now c.in-Some.next found in
    let start : c.joined-run.result.start ≡ c.loop-next.run.start = ap (λ (r : RmapRec). r.start) c.joined-run.ensures in
    let count : c.joined-run.result.count ≡ c.loop-next.run.count + c.in-Some.next.count = ap (λ (r : RmapRec). r.count) c.joined-run.ensures in
    let room = joined_room c.args.pieces.now c.requires.records c.loop-next.run c.in-Some.next hit.0 hit.1 in
    record {
      room = omega (arith, start, count, room);
      whole = ap (run_of c.args.pieces.now) c.joined-run.ensures ∙ sym (run_on c.args.pieces.now c.requires.records c.loop-next.run c.in-Some.next c.loop-next.invariant.room found) ∙ c.loop-next.invariant.whole;
    }

pub returns : goal.returns
returns c =
    let none : find (can_join c.loop-next.run) c.args.pieces.now ≡ None = sym c.follower.ensures ∙ c.in_default.is in
    sym (run_stops c.args.pieces.now c.loop-next.run none) ∙ c.loop-next.invariant.whole
