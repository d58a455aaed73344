use Rattle.std.proofs.Common.{◌≡◌, ◌++◌, [], ◌∷◌, ◌<◌, Bool, true, false, not, List, map, filter, get_or, length, Vec, Global, ap, sym, ◌∙◌, arith}
use Rattle.std.proofs.lemmas.List.{take_all}
use Rattle.rmap_recs.specs.declared.records.RmapRec.{RmapRec}
use Rattle.run_edits.specs.Pieces.{is_followed, run_of, joined_pieces}
use Rattle.run_edits.proofs.PieceLemmas.{kept_more, left_more}
use Rattle.run_edits.proofs.pieces.joined_by.Goals as goal
use Rattle.run_edits.proofs.pieces.joined_by.Goals.{then-not-marks-i+in_ok-push, else-not-marks-i}

pub loop-i-preserved : goal.loop-i-preserved
loop-i-preserved c =
    let pieces = c.args.pieces.now in
    let i = c.loop-i.i in
    let zero_rec : RmapRec = record { start = 0; count = 0; owner = 0; word = 0 } in
    let below : i < length pieces = omega arith in
    let exact = c.in_ok-marks.ensures.exact i zero_rec below in
    let runs = c.loop-i.runs.items in
    let slice : (b : Bool) → get_or c.as_slice-marks.result.now i false ≡ b → is_followed pieces (get_or pieces i zero_rec) ≡ b = λ b h. sym exact ∙ ap (λ (ms : List Bool). get_or ms i false) (sym c.as_slice-marks.ensures.value) ∙ h in
    elim c.if-not-marks-i.branch [
      | then-not-marks-i+in_ok-push w ↦
          ap (λ (v : Vec RmapRec Global). v.items) w.runs-is ∙ w.in_ok-push.ensures.items ∙ ap (λ (r : RmapRec). runs ++ r ∷ []) w.run_from.ensures
          ∙ kept_more (run_of pieces) (λ q. not (is_followed pieces q)) pieces i zero_rec runs below (ap not (slice false w.if-not-marks-i.true)) c.loop-i.invariant
      | else-not-marks-i w ↦
          ap (λ (v : Vec RmapRec Global). v.items) w.runs-is
          ∙ left_more (run_of pieces) (λ q. not (is_followed pieces q)) pieces i zero_rec runs below (ap not (slice true w.if-not-marks-i.false)) c.loop-i.invariant
    ]

pub returns : goal.returns
unfolding joined_pieces
returns c =
    let pieces = c.args.pieces.now in
    c.loop-i.invariant ∙ ap (λ (some : List RmapRec). map (run_of pieces) (filter (λ q. not (is_followed pieces q)) some)) (take_all c.loop-i.i pieces c.loop-i-test.false)
