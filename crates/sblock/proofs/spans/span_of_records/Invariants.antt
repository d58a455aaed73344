use Rattle.std.proofs.Common.{◌≡◌, take}
use Rattle.sblock.specs.Spans.{span_of}
use Rattle.sblock.proofs.spans.span_of_records.Given as goal

abbrev pub invariant-loop-rec : goal.invariant-loop-rec
invariant-loop-rec g l = l.span ≡ span_of g.K.RecKind.form (take l.rec-index l.recs)
