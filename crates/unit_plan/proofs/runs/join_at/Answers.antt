use Rattle.std.proofs.Common.{◌≡◌, ◌+◌, true, get_or, map, ap, refl, sym, subst, ◌∙◌, arith}
use Rattle.rmap_recs.specs.Rmap.{can_join}
use Rattle.rmap_recs.specs.declared.records.RmapRec.{RmapRec}
use Rattle.run_edits.proofs.FitLemmas.{ends_at}
use Rattle.unit_plan.specs.Joined.{Fits}
use Rattle.unit_plan.specs.Lost.{of_piece}
use Rattle.unit_plan.proofs.JoinLemmas.{fits_at, joined_none, joined_some, mapped_at, nothing, rooms_kept, sorted_kept}
use Rattle.unit_plan.proofs.runs.join_at.Goals as goal

pub place_behind-requires-clause-room : goal.place_behind-requires-clause-room
place_behind-requires-clause-room c = subst Fits (sym c.rec_of-run.ensures) (fits_at c.args.pieces.now c.args.at c.requires.within c.requires.rooms)

pub overflow_add-run : goal.overflow_add-run
overflow_add-run c =
    let ps = c.args.pieces.now in
    let q = get_or ps c.in-Some.behind nothing in
    let run = c.rec_of-run.result in
    let found = c.in-Some.ensures.found in
    let joins : can_join run (of_piece q) ≡ true = ap (can_join run) (sym (mapped_at ps c.in-Some.behind nothing (of_piece q) found.0)) ∙ found.1 (of_piece q) in
    let end = ends_at run (of_piece q) joins in
    let room = fits_at ps c.in-Some.behind found.0 c.requires.rooms in
    record { fits = omega (arith, end, room) }

pub returns-in-Some-clause-sorted : goal.returns-in-Some-clause-sorted
returns-in-Some-clause-sorted c =
    let ps = c.args.pieces.now in
    let q = get_or ps c.in-Some.behind nothing in
    sorted_kept c.args.at c.in-Some.behind (c.rec_of-run.result.count + q.run.count) ps c.set_count.new.pieces c.set_count-in-Some.new.pieces c.set_count.ensures.long c.set_count-in-Some.ensures.long c.set_count.ensures.there
    c.set_count.ensures.others c.set_count-in-Some.ensures.there c.set_count-in-Some.ensures.others c.requires.sorted

pub returns-in-Some-clause-rooms : goal.returns-in-Some-clause-rooms
returns-in-Some-clause-rooms c =
    let ps = c.args.pieces.now in
    let q = get_or ps c.in-Some.behind nothing in
    let p = get_or ps c.args.at nothing in
    let run = c.rec_of-run.result in
    let found = c.in-Some.ensures.found in
    let joins : can_join run (of_piece q) ≡ true = ap (can_join run) (sym (mapped_at ps c.in-Some.behind nothing (of_piece q) found.0)) ∙ found.1 (of_piece q) in
    let end = ends_at run (of_piece q) joins in
    let room = fits_at ps c.in-Some.behind found.0 c.requires.rooms in
    let starts : run.start ≡ p.run.start = ap (λ (r : RmapRec). r.start) c.rec_of-run.ensures in
    rooms_kept c.args.at c.in-Some.behind (run.count + q.run.count) ps c.set_count.new.pieces c.set_count-in-Some.new.pieces c.set_count.ensures.long c.set_count-in-Some.ensures.long c.set_count.ensures.there c.set_count.ensures.others
    c.set_count-in-Some.ensures.there c.set_count-in-Some.ensures.others (omega (arith, end, room, starts)) c.requires.within c.requires.rooms

pub returns-in-Some-clause-joined : goal.returns-in-Some-clause-joined
returns-in-Some-clause-joined c = λ recs are so_far.
    let ps = c.args.pieces.now in
    let q = get_or ps c.in-Some.behind nothing in
    let run = c.rec_of-run.result in
    let found = c.in-Some.ensures.found in
    joined_some c.args.at c.in-Some.behind (run.count + q.run.count) ps c.set_count.new.pieces c.set_count-in-Some.new.pieces c.set_count.ensures.long c.set_count-in-Some.ensures.long c.set_count.ensures.there c.set_count.ensures.others
    c.set_count-in-Some.ensures.there c.set_count-in-Some.ensures.others recs are c.requires.within found.0
    (λ d. ap (λ (r : RmapRec). can_join r (get_or (map of_piece ps) c.in-Some.behind d)) (sym c.rec_of-run.ensures) ∙ found.1 d)
    (ap (λ (r : RmapRec). r.count + q.run.count) c.rec_of-run.ensures) so_far

pub returns-in_default-clause-joined : goal.returns-in_default-clause-joined
returns-in_default-clause-joined c = λ recs are so_far.
    joined_none recs are c.args.at c.args.pieces.now c.requires.within (λ q d. ap (λ (r : RmapRec). can_join r q) (sym c.rec_of-run.ensures) ∙ c.in_default.ensures.none refl q d) so_far
