use Rattle.std.proofs.Common.{arith}
use Rattle.fs_model.specs.declared.claim.Claim.TheVariants.{Heads}
use Rattle.unit_plan.specs.declared.piece.Piece.{Piece}
use Rattle.unit_plan.specs.Spans.{looked_run}
use Rattle.unit_plan.proofs.SpanLemmas.{past_begun, past_later}
use Rattle.unit_plan.proofs.spare.past_piece.Goals as goal

-- what a place past the end reads as
abbrev none : Piece
none = record { claim = Heads; run = record { start = 0; count = 0 }; owner = 0; word = 0 }

pub returns-then-from-at-clause-end : goal.returns-then-from-at-clause-end
returns-then-from-at-clause-end c = past_later (looked_run c.args.among) c.args.pieces.now c.args.at.piece c.args.at.from none c.if-at-pieces.false (let e = c.from.ensures in let t = c.if-from-at.true in omega (arith, e, t))

pub returns-clause-end : goal.returns-clause-end
returns-clause-end c = past_begun (looked_run c.args.among) c.args.pieces.now c.args.at.piece c.args.at.from c.max.result none c.if-at-pieces.false (let e = c.from.ensures in let t = c.if-from-at.false in omega (arith, e, t))
    (let m = c.max.ensures in let e = c.end_of_piece.ensures in omega (arith, m, e))
