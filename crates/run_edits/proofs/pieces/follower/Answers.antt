use Rattle.std.proofs.Common.{◌≡◌, None, get_or, find, sym, refl}
use Rattle.rmap_recs.specs.Rmap.{can_join}
use Rattle.rmap_recs.specs.declared.records.RmapRec.{RmapRec}
use Rattle.rmap_recs.proofs.RisingLemmas.{find_none_by, at_place}
use Rattle.run_edits.proofs.PieceLemmas.{find_is, one_joins}
use Rattle.run_edits.proofs.pieces.follower.Goals as goal

pub returns-in_err-place : goal.returns-in_err-place
returns-in_err-place c =
    let none : find (can_join c.args.run.now) c.args.pieces.now ≡ None = find_none_by (can_join c.args.run.now) c.args.pieces.now (c.in_err-place.ensures.none refl) in
    cc

pub returns : goal.returns
returns c =
    let pieces = c.args.pieces.now in
    let run = c.args.run.now in
    let zero_rec : RmapRec = record { start = 0; count = 0; owner = 0; word = 0 } in
    let found = c.in_ok-place.ensures.found in
    let here = at_place pieces c.in_ok-place.place zero_rec found.0 in
    sym (find_is (can_join run) pieces (get_or pieces c.in_ok-place.place zero_rec) here (found.1 zero_rec)
    (λ q d h. one_joins pieces c.requires.sorted run q (get_or pieces c.in_ok-place.place zero_rec) d here h (found.1 zero_rec)))
