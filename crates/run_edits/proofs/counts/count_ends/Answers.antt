use Rattle.std.proofs.Common.{List, ◌∙◌, ap, sym, filter, length, arith}
use Rattle.std.proofs.lemmas.List.{take_all}
use Rattle.rmap_recs.specs.declared.records.RmapRec.{RmapRec}
use Rattle.run_edits.specs.Pieces.{is_last}
use Rattle.run_edits.proofs.CountLemmas.{count_more, count_on, kept_few}
use Rattle.run_edits.proofs.counts.count_ends.Goals.{then-ends_run, else-ends_run}
use Rattle.run_edits.proofs.counts.count_ends.Goals as goal

-- what a place past the end reads as
abbrev none : RmapRec
none = record { start = 0; count = 0; owner = 0; word = 0 }

pub loop-piece-preserved : goal.loop-piece-preserved
loop-piece-preserved c =
    let pieces = c.args.pieces.now in
    let i = c.loop-piece.piece-index in
    elim c.if-ends_run.branch [
      | then-ends_run w ↦ w.count-is ∙ count_more (is_last pieces) pieces i none c.loop-piece.count c.loop-piece-test.true (sym c.ends_run.ensures ∙ w.if-ends_run.true) c.loop-piece.invariant
      | else-ends_run w ↦ w.count-is ∙ count_on (is_last pieces) pieces i none c.loop-piece.count c.loop-piece-test.true (sym c.ends_run.ensures ∙ w.if-ends_run.false) c.loop-piece.invariant
    ]

pub returns : goal.returns
returns c = c.loop-piece.invariant ∙ ap (λ (some : List RmapRec). length (filter (is_last c.args.pieces.now) some)) (take_all c.loop-piece.piece-index c.args.pieces.now c.loop-piece-test.false)

pub overflow_add-count : goal.overflow_add-count
overflow_add-count c = let few = kept_few (is_last c.args.pieces.now) c.args.pieces.now c.loop-piece.piece-index c.loop-piece.count c.loop-piece.invariant in omega (arith, few)
