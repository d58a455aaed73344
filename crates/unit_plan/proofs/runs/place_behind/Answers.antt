use Rattle.std.proofs.Common.{◌≡◌, ◌<◌, ◌+◌, ℕ, true, false, length, get_or, map, ap, sym, ◌∙◌, refl, arith}
use Rattle.rmap_recs.specs.Rmap.{can_join}
use Rattle.rmap_recs.specs.Words.{word_goes_on}
use Rattle.rmap_recs.specs.declared.records.RmapRec.{RmapRec}
use Rattle.run_edits.proofs.PieceLemmas.{missing}
use Rattle.unit_plan.specs.Lost.{of_piece}
use Rattle.unit_plan.proofs.JoinLemmas.{map_long, mapped_at, nothing}
use Rattle.unit_plan.proofs.runs.place_behind.Goals as goal
use Rattle.unit_plan.proofs.runs.place_behind.Goals.{else-place-pieces-via-then-place-pieces+else-can_join, else-place-pieces-via-else-place-pieces}

pub returns-clause-none : goal.returns-clause-none
returns-clause-none c =
    let pieces = map of_piece c.args.pieces.now in
    let long = map_long c.args.pieces.now in
    let run = c.args.run.now in
    let place = c.place_near-place.result in
    let zero_rec : RmapRec = record { start = 0; count = 0; owner = 0; word = 0 } in
    let next : RmapRec = record { start = run.start + run.count; count = 1; owner = run.owner; word = c.in_ok-word.word } in
    let word : (n : ℕ) → word_goes_on run.owner run.word run.count n ≡ true → c.in_ok-word.word ≡ n = λ n goes. (let e = c.in_ok-word.ensures n goes in cc) in
    let fails : place < length pieces → can_join run (get_or pieces place zero_rec) ≡ false
    = elim c.else-place-pieces.branch [
      | else-place-pieces-via-then-place-pieces+else-can_join w ↦ λ within. ap (can_join run) (mapped_at c.args.pieces.now place nothing zero_rec w.if-place-pieces.true ∙ sym w.rec_of.ensures) ∙ (sym w.can_join.ensures ∙ w.if-can_join.false)
      | else-place-pieces-via-else-place-pieces w ↦ λ within. absurd (let past = w.if-place-pieces.false in omega (arith, within, past, long))
    ] in
    λ is. missing pieces run next c.requires.sorted place c.place_near-place.ensures.before (λ k d from within. c.place_near-place.ensures.others k d from (omega (arith, within, long))) refl refl word zero_rec fails
