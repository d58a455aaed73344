use Rattle.std.proofs.Common.{◌≡◌, take}
use Rattle.sblock.specs.Spans.{span_over}
use Rattle.sblock.proofs.spans.span_of_subtrees.Given as goal

abbrev pub invariant-loop-below : goal.invariant-loop-below
invariant-loop-below g l = l.span ≡ span_over g.K.RecKind.form (take l.below-index l.spans)
