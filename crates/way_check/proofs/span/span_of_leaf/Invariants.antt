use Rattle.std.proofs.Common.{◌≡◌}
use Rattle.sblock.specs.Area.{area_of}
use Rattle.sblock.specs.Lists.{items_from}
use Rattle.sblock.specs.Spans.{span_of}
use Rattle.way_check.proofs.span.span_of_leaf.Given as goal

-- the keys so far are those of the first records
abbrev pub invariant-loop-i : goal.invariant-loop-i
invariant-loop-i g l = l.span ≡ span_of g.K.RecKind.form (items_from (g.K.RecKind.form.record_at (area_of l.block.bytes)) l.i 0)
